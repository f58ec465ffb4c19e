-- Bytes put one behind the other.
--     put-none put_byte put-behind put_word   nothing, a byte, pieces in a row, a word with the byte behind it
--     put-length put_is              the buffer keeps its length; the same bytes, said in another way
-- Assumes nothing.
use Prim.Native.Nat.{ℕ, ◌+◌, ◌≤◌, ◌<◌}
use mathlib.Core.Path.{◌≡◌, refl, sym, ap, subst, ◌∙◌}
use mathlib.Core.List.{List, [], ◌∷◌, ◌++◌}
use native.Mathlib.Omega.{arith}
use lib.ListN.{length, set, length-append}
use Rattle.metafile.specs.Answers.{placed}
use Rattle.laws.proofs.Loops.{placed-length, placed-nothing}
use Rattle.lines.proofs.Puts.{placed-next, placed-byte}
use Rattle.text.specs.Put.{Put}

pub put-none : (at : ℕ) (b : List ℕ) → at ≤ length b → Put [] at b at b
put-none at b h = record { end_is = omega arith; fits = h; bytes-are = sym (placed-nothing at b) }

pub put-length : {v b c : List ℕ} {at r : ℕ} → Put v at b r c → length c ≡ length b
put-length {v} {b} {c} {at} {r} p = ap length p.bytes-are ∙ placed-length at v b (omega (arith, p.end_is, p.fits))

pub put-behind : {v w b c d : List ℕ} {at r s : ℕ} → Put v at b r c → Put w r c s d → Put (v ++ w) at b s d
put-behind {v} {w} {b} {c} {d} {at} {r} {s} p q =
    let long = put-length p in
    record {
      end_is = simp length-append (omega (arith, p.end_is, q.end_is));
      fits = omega (arith, q.fits);
      bytes-are = placed-next at r v w b c d p.bytes-are p.end_is (omega (arith, q.fits, q.end_is)) q.bytes-are;
    }

pub put_is : {v w b c : List ℕ} {at r : ℕ} → v ≡ w → Put v at b r c → Put w at b r c
put_is {b = b} {c = c} {at = at} {r = r} e p = subst (λ (x : List ℕ). Put x at b r c) e p

put-bytes : {v b c : List ℕ} {at r : ℕ} → at + length v ≤ length b → r ≡ at + length v → c ≡ placed at v b → Put v at b r c
put-bytes h e q = record { end_is = e; fits = omega arith; bytes-are = q }

pub put_byte : (r x : ℕ) (c : List ℕ) → r < length c → Put (x ∷ []) r c (r + 1) (set c r x)
put_byte r x c h = record { end_is = refl; fits = omega arith; bytes-are = placed-byte r x c h }

pub put_word : (w b c : List ℕ) (at r x : ℕ) → at + length w + 1 ≤ length b → r ≡ at + length w → c ≡ placed at w b → Put (w ++ x ∷ []) at b (r + 1) (set c r x)
put_word w b c at r x h e q =
    let p : Put w at b r c = put-bytes (omega arith) e q in
    let long = put-length p in
    put-behind p (put_byte r x c (omega arith))
