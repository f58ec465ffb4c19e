-- The two calls one behind the other.
--     unpack-of-pack   what pack gave, unpacked, is the file
--     pack-of-unpack   what unpack took is what pack gives for what it gave
-- Assumes nothing.
use Rattle.std.proofs.Common.{◌≡◌, ℕ, zero, suc, ◌^◌, ◌≤◌, true, false, List, [], ◌∷◌, length, take, sym, refl, ap, ◌∙◌, arith, ltb-false}
use Rattle.metafile.specs.Bytes.{all, is_zero, non_zero}
use Rattle.metafile.specs.Answers.{result, Test, refuse, first_refusal, over_limit, Outcome, outcome, placed, count_answer}
use Rattle.laws.proofs.First.{untrue}
use Rattle.laws.proofs.Loops.{placed-start}
use Rattle.laws.proofs.Accepted.{refusal-none, limit-within, limit-under, limit-small, accepted-none, accepted-is}
use Rattle.blocks.specs.Blocks.{packed, unpack_fault, unpacked, pack_tests, pack, unpack_tests, unpack, is_byte}
use Rattle.blocks.proofs.Answers.{pack-done, unpack-done}
use Rattle.blocks.proofs.Packed.{unpack-pack, pack-unpack, unpacked-short}

room_within : (a b : ℕ) → over_limit (a ∷ b ∷ []) ≡ false → b ≤ 1073741824
room_within a b e = limit-small b [] (sym (limit-within a (b ∷ []) (limit-small a (b ∷ []) e)) ∙ e)

both-within : (a b : ℕ) → a ≤ 1073741824 → b ≤ 1073741824 → over_limit (a ∷ b ∷ []) ≡ false
both-within a b h k = limit-within a (b ∷ []) h ∙ limit-under b k

-- ---- what holds where a length is answered

record WasPacked (f buffer : List ℕ) (n : ℕ) : Type 0 where
  pub few : length f ≤ 1073741824
  pub short : length (packed f) ≤ 1073741824
  pub bytes : take n (pack f buffer).buffer ≡ packed f

was-packed : (f buffer : List ℕ) (n : ℕ) → (pack f buffer).answer ≡ result (n ∷ []) → WasPacked f buffer n
unfolding pack pack_tests
was-packed f buffer n e =
    let none = accepted-none _ buffer _ (n ∷ []) e in
    let within = refusal-none 10 _ _ none in
    let room = refusal-none 17 _ _ within.1 in
    let done = accepted-is _ buffer _ (n ∷ []) e in
    let value : result (n ∷ []) ≡ result (length (packed f) ∷ []) = sym e ∙ ap (λ (o : Outcome). o.answer) done in
    let long : n ≡ length (packed f) = cc in
    record {
      few = limit-small _ _ within.0;
      short = omega (arith, ltb-false (length buffer) (length (packed f)) room.0, room_within _ _ within.0);
      bytes = rw (done, long) (placed-start (packed f) buffer);
    }

record WasUnpacked (x room : List ℕ) (n : ℕ) : Type 0 where
  pub right : unpack_fault x ≡ 0
  pub bytes : take n (unpack x room).buffer ≡ unpacked x

wrong-none : (k : ℕ) (ts : List Test) → first_refusal (refuse k (non_zero k) ∷ ts) ≡ 0 → k ≡ 0
unfolding non_zero is_zero
wrong-none zero ts e = refl
wrong-none (suc k) ts e = untrue (sym (refusal-none k true ts e).0)

was-unpacked : (x room : List ℕ) (n : ℕ) → (unpack x room).answer ≡ result (n ∷ []) → WasUnpacked x room n
unfolding unpack unpack_tests
was-unpacked x room n e =
    let none = accepted-none _ room _ (n ∷ []) e in
    let within = refusal-none 10 _ _ none in
    let done = accepted-is _ room _ (n ∷ []) e in
    let value : result (n ∷ []) ≡ result (length (unpacked x) ∷ []) = sym e ∙ ap (λ (o : Outcome). o.answer) done in
    let long : n ≡ length (unpacked x) = cc in
    record { right = wrong-none (unpack_fault x) _ within.1; bytes = rw (done, long) (placed-start (unpacked x) room) }

-- ---- one behind the other

-- what pack gave, unpacked into a buffer with room for the file
pub unpack-of-pack : (f buffer room : List ℕ) (n : ℕ) → (pack f buffer).answer ≡ result (n ∷ []) → length f ≤ length room → length room ≤ 2 ^ 30
    → unpack (take n (pack f buffer).buffer) room ≡ outcome (result (length f ∷ [])) (placed 0 f room)
unfolding count_answer
unpack-of-pack f buffer room n e fits few =
    let w = was-packed f buffer n e in
    let back = unpack-pack f w.few in
    rw w.bytes
    (sym
    (unpack-done (packed f) room (both-within _ _ w.short few) back.0
    (ap length (sym back.1)) fits (ap (λ (v : List ℕ). placed 0 v room) (sym back.1))))

-- what unpack took, made again by pack from what it gave
pub pack-of-unpack : (x room buffer : List ℕ) (n : ℕ) → all is_byte x ≡ true → (unpack x room).answer ≡ result (n ∷ []) → length x ≤ length buffer → length buffer ≤ 2 ^ 30
    → pack (take n (unpack x room).buffer) buffer ≡ outcome (result (length x ∷ [])) (placed 0 x buffer)
unfolding count_answer
pack-of-unpack x room buffer n bytes e fits few =
    let w = was-unpacked x room n e in
    let again = pack-unpack x bytes w.right in
    rw w.bytes
    (sym
    (pack-done (unpacked x) buffer (both-within _ _ (omega (arith, unpacked-short x)) few)
    (ap length again) fits (ap (λ (v : List ℕ). placed 0 v buffer) again)))
