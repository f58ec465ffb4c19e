-- The loops over the mini-chunks ("Mini-chunks go on while the next 10 bytes are "MiniChunk=""). The definitions walk
-- with a count of bytes to pass over; from the place behind these bytes the walk is the same.
--     skip-..     k bytes passed over
--     Walk        the loop that judges: from a start on, at a place; walk-..: its steps
--     Whole       at a place in contents that have no fault, what is left has none
--     Joined      the loops that gather; joined-..: their steps
-- Assumes nothing.
use Prim.Native.Nat.{ℕ, zero, suc, ◌+◌, ◌-◌, ◌≤◌}
use mathlib.Core.Bool.{true, false}
use mathlib.Core.Path.{◌≡◌, refl, sym, ap, ◌∙◌}
use mathlib.Core.List.{List, [], ◌∷◌, ◌++◌, append_assoc}
use native.Mathlib.Omega.{arith}
use lib.ListN.{length, drop, length-append, length-take, length-drop}
use lib.Seq.{drop-drop}
use Rattle.metafile.specs.Bytes.{◌⊳◌, same, starts}
use Rattle.metafile.specs.Answers.{placed}
use Rattle.metafile.specs.Multi.{mini_label, mini_id, mini_data, mini_fault, minis_fault, minis_end, minis_joined, minis_place, declared_ids, multi_fault, multi_joined}
use Rattle.std.specs.List.{concat}
use Rattle.laws.proofs.First.{test, untrue, ⊳-left, ⊳-right, ⊳-stop, ⊳-go}
use Rattle.laws.proofs.Loops.{placed-length, placed-nothing, placed-placed}
use Rattle.chunk_laws.proofs.Multi.{multi-whole}
use Rattle.multi.specs.Part.{Whole, data_under, each_under}
use Rattle.chunk_laws.proofs.Minis.{mini-fits}
use Rattle.multi.proofs.TypeWalk.{place-fits}

-- ---- k bytes passed over

skip-fault : (ids : List (List ℕ)) (k : ℕ) (s : List ℕ) → k ≤ length s → minis_fault ids k s ≡ minis_fault ids 0 (drop k s)
unfolding minis_fault
skip-fault ids zero s h = refl
skip-fault ids (suc k) [] h = absurd (omega arith)
skip-fault ids (suc k) (x ∷ xs) h = skip-fault ids k xs (omega arith)

skip-end : (k : ℕ) (s : List ℕ) → k ≤ length s → minis_end k s ≡ k + minis_end 0 (drop k s)
unfolding minis_end
skip-end zero s h = omega arith
skip-end (suc k) [] h = absurd (omega arith)
skip-end (suc k) (x ∷ xs) h = omega (arith, skip-end k xs (omega arith))

skip-each : (id : List ℕ) (k : ℕ) (s : List ℕ) → k ≤ length s → each_under id k s ≡ each_under id 0 (drop k s)
unfolding each_under
skip-each id zero s h = refl
skip-each id (suc k) [] h = absurd (omega arith)
skip-each id (suc k) (x ∷ xs) h = skip-each id k xs (omega arith)

-- ---- one mini-chunk

no_label : starts mini_label [] ≡ true → {A : Type 0} → A
unfolding starts mini_label same
no_label e = untrue e

past_first : (d : ℕ) (x : ℕ) (xs : List ℕ) → drop (32 + d) (x ∷ xs) ≡ drop (31 + d) xs
past_first d x xs = let one : 32 + d ≡ suc (31 + d) = omega arith in rw one

fault-at : (ids : List (List ℕ)) (s : List ℕ) → starts mini_label s ≡ true → 32 + mini_data s ≤ length s
    → minis_fault ids 0 s ≡ mini_fault ids s ⊳ minis_fault ids 0 (drop (32 + mini_data s) s)
unfolding minis_fault
fault-at ids [] e h = no_label e
fault-at ids (x ∷ xs) e h =
    rw (e, past_first (mini_data (x ∷ xs)) x xs, skip-fault ids (31 + mini_data (x ∷ xs)) xs (omega arith))

end-at : (s : List ℕ) → starts mini_label s ≡ true → 32 + mini_data s ≤ length s
    → minis_end 0 s ≡ 32 + mini_data s + minis_end 0 (drop (32 + mini_data s) s)
unfolding minis_end
end-at [] e h = no_label e
end-at (x ∷ xs) e h =
    rw (e, past_first (mini_data (x ∷ xs)) x xs, skip-end (31 + mini_data (x ∷ xs)) xs (omega arith)) (omega arith)

each_at : (id s : List ℕ) → starts mini_label s ≡ true → 32 + mini_data s ≤ length s
    → each_under id 0 s ≡ data_under id s ∷ each_under id 0 (drop (32 + mini_data s) s)
unfolding each_under
each_at id [] e h = no_label e
each_at id (x ∷ xs) e h =
    rw (e, past_first (mini_data (x ∷ xs)) x xs, skip-each id (31 + mini_data (x ∷ xs)) xs (omega arith))

fault-stops : (ids : List (List ℕ)) (s : List ℕ) (f : ℕ) → starts mini_label s ≡ true → f ≡ mini_fault ids s → (f ≡ 0 → ⊥) → minis_fault ids 0 s ≡ f
unfolding minis_fault
fault-stops ids [] f e q z = no_label e
fault-stops ids (x ∷ xs) f e q z = rw (e, ← q) (⊳-stop f _ z)

-- other bytes, or none, end them
fault-end : (ids : List (List ℕ)) (s : List ℕ) → starts mini_label s ≡ false → minis_fault ids 0 s ≡ 0
unfolding minis_fault
fault-end ids [] e = refl
fault-end ids (x ∷ xs) e = rw e

end-end : (s : List ℕ) → starts mini_label s ≡ false → minis_end 0 s ≡ 0
unfolding minis_end
end-end [] e = refl
end-end (x ∷ xs) e = rw e

each_end : (id s : List ℕ) → starts mini_label s ≡ false → each_under id 0 s ≡ []
unfolding each_under
each_end id [] e = refl
each_end id (x ∷ xs) e = rw e

-- the first of mini-chunks that have no fault has none
first-whole : (ids : List (List ℕ)) (s : List ℕ) → starts mini_label s ≡ true → minis_fault ids 0 s ≡ 0 → 32 + mini_data s ≤ length s
unfolding minis_fault
first-whole ids [] e z = no_label e
first-whole ids (x ∷ xs) e z = mini-fits ids (x ∷ xs) (⊳-left _ _ (rw e at z))

-- ---- the loop that judges

pub record Walk (ids : List (List ℕ)) (r : List ℕ) (start at : ℕ) : Type 0 where
  pub inside : at ≤ length r
  pub faults : minis_fault ids 0 (drop start r) ≡ minis_fault ids 0 (drop at r)
  pub ends : start + minis_end 0 (drop start r) ≡ at + minis_end 0 (drop at r)

pub walk_begins : (ids : List (List ℕ)) (r : List ℕ) (start : ℕ) → start ≤ length r → Walk ids r start start
walk_begins ids r start h = record { inside = h; faults = refl; ends = refl }

module _ {ids : List (List ℕ)} {r : List ℕ} {start at : ℕ} (w : Walk ids r start at) where
  pub walk-stops : (f : ℕ) → starts mini_label (drop at r) ≡ true → f ≡ mini_fault ids (drop at r) → (f ≡ 0 → ⊥) → minis_fault ids 0 (drop start r) ≡ f
  walk-stops f e q z = w.faults ∙ fault-stops ids (drop at r) f e q z

  pub this-fits : mini_fault ids (drop at r) ≡ 0 → at + (32 + mini_data (drop at r)) ≤ length r
  this-fits e =
      let a = simp length-drop at (mini-fits ids (drop at r) e) in
      omega (arith, w.inside)

  pub walk-next : starts mini_label (drop at r) ≡ true → mini_fault ids (drop at r) ≡ 0 → Walk ids r start (at + (32 + mini_data (drop at r)))
  walk-next e z =
      let a = mini-fits ids (drop at r) z in
      record {
        inside = this-fits z;
        faults = w.faults ∙ fault-at ids (drop at r) e a ∙ rw (z, drop-drop (32 + mini_data (drop at r)) at r) (⊳-go 0 _ refl);
        ends = w.ends ∙ rw (end-at (drop at r) e a, drop-drop (32 + mini_data (drop at r)) at r) (omega arith);
      }

  pub walk-faults : starts mini_label (drop at r) ≡ false → minis_fault ids 0 (drop start r) ≡ 0
  walk-faults e = w.faults ∙ fault-end ids (drop at r) e

  pub walk_ends : starts mini_label (drop at r) ≡ false → start + minis_end 0 (drop start r) ≡ at
  walk_ends e = w.ends ∙ rw (end-end (drop at r) e) (omega arith)

-- ---- contents that have no fault

pub whole-begins : (r : List ℕ) → multi_fault r ≡ 0 → Whole r (minis_place r)
whole-begins r e = record { inside = place-fits r e; no-fault = (multi-whole r e).in-minis }

-- all that the mini-chunks add is what the definition joins
each-joined : (id : List ℕ) (k : ℕ) (s : List ℕ) → concat (each_under id k s) ≡ minis_joined id k s
unfolding each_under minis_joined data_under
each-joined id k [] = refl
each-joined id zero (x ∷ xs) =
    test (starts mini_label (x ∷ xs))
    (λ e. rw (e, each-joined id (31 + mini_data (x ∷ xs)) xs))
    (λ e. rw e)
each-joined id (suc k) (x ∷ xs) = each-joined id k xs

-- no more than there are behind the k bytes to pass over
joined-most : (id : List ℕ) (k : ℕ) (s : List ℕ) → length (minis_joined id k s) ≤ length s - k
unfolding minis_joined
joined-most id k [] = omega arith
joined-most id zero (x ∷ xs) =
    let n = mini_data (x ∷ xs) in
    let more = joined-most id (31 + n) xs in
    let added = length-take n (drop 32 (x ∷ xs)) in
    let behind = length-drop 32 (x ∷ xs) in
    test (starts mini_label (x ∷ xs))
    (λ e. test (same (mini_id (x ∷ xs)) id) (λ q. rw (e, q) (simp length-append (omega arith))) (λ q. rw (e, q) (omega arith)))
    (λ e. rw e (omega arith))
joined-most id (suc k) (x ∷ xs) = omega (arith, joined-most id k xs)

pub multi-most : (id r : List ℕ) → length (multi_joined id r) ≤ length r
unfolding multi_joined
multi-most id r = omega (arith, joined-most id 0 (drop (minis_place r) r), length-drop (minis_place r) r)

pub under-begins : (id r : List ℕ) → concat (each_under id 0 (drop (minis_place r) r)) ≡ multi_joined id r
unfolding multi_joined
under-begins id r = each-joined id 0 (drop (minis_place r) r)

module _ {r : List ℕ} {at : ℕ} (w : Whole r at) where
  module _ (e : starts mini_label (drop at r) ≡ true) where
    data-fits : 32 + mini_data (drop at r) ≤ length (drop at r)
    data-fits = first-whole (declared_ids r) (drop at r) e w.no-fault

    pub whole-fits : at + (32 + mini_data (drop at r)) ≤ length r
    whole-fits = omega (arith, w.inside, simp length-drop at data-fits)

    pub whole-next : Whole r (at + (32 + mini_data (drop at r)))
    whole-next =
        record {
          inside = whole-fits;
          no-fault = rw drop-drop at (⊳-right _ _ (sym (fault-at (declared_ids r) (drop at r) e data-fits) ∙ w.no-fault));
        }

    pub under-next : (id : List ℕ) → each_under id 0 (drop at r) ≡ data_under id (drop at r) ∷ each_under id 0 (drop (at + (32 + mini_data (drop at r))) r)
    under-next id = each_at id (drop at r) e data-fits ∙ rw drop-drop

  pub under-end : (id : List ℕ) → starts mini_label (drop at r) ≡ false → each_under id 0 (drop at r) ≡ []
  under-end id e = each_end id (drop at r) e

-- ---- lists joined one after the other

-- all is what is joined so far, so many bytes, and those left
pub record Joined (all : List ℕ) (left : List (List ℕ)) (done : ℕ) : Type 0 where
  pub so_far : List ℕ
  pub whole : all ≡ so_far ++ concat left
  pub long : length so_far ≡ done

pub joined-begins : {all : List ℕ} {left : List (List ℕ)} → concat left ≡ all → Joined all left 0
joined-begins e = record { so_far = []; whole = sym e; long = refl }

module _ {all : List ℕ} {left : List (List ℕ)} {done : ℕ} (j : Joined all left done) where
  module _ {d : List ℕ} {rest : List (List ℕ)} (e : left ≡ d ∷ rest) where
    pub joined-goes : Joined all rest (done + length d)
    joined-goes =
        record {
          so_far = j.so_far ++ d;
          whole = j.whole ∙ rw (e, append_assoc);
          long = simp length-append (omega (arith, j.long));
        }

    pub joined-room : done + length d ≤ length all
    joined-room = rw (j.whole, e) (simp length-append (omega (arith, j.long)))

-- they are put into a buffer as they are joined
pub record Put (all before : List ℕ) (left : List (List ℕ)) (done : ℕ) (buffer : List ℕ) : Type 0 where
  pub joined : Joined all left done
  pub put : buffer ≡ placed 0 joined.so_far before

pub put-begins : {all before : List ℕ} {left : List (List ℕ)} → concat left ≡ all → Put all before left 0 before
unfolding joined-begins
put-begins {before = before} e = record { joined = joined-begins e; put = sym (placed-nothing 0 before) }

module _ {all before : List ℕ} {left : List (List ℕ)} {done : ℕ} {buffer : List ℕ} (p : Put all before left done buffer) where
  pub put-long : length all ≤ length before → length buffer ≡ length before
  put-long h =
      ap length p.put
      ∙ placed-length 0 p.joined.so_far before (omega (arith, simp length-append at (ap length p.joined.whole)))

  module _ {d : List ℕ} {rest : List (List ℕ)} (e : left ≡ d ∷ rest) (h : length all ≤ length before) where
    pub put-room : done + length d ≤ length buffer
    put-room = omega (arith, put-long h, joined-room p.joined e)

    pub put-goes : Put all before rest (done + length d) (placed done d buffer)
    unfolding joined-goes
    put-goes =
        let j = p.joined in
        let place : 0 + length j.so_far ≡ done = omega (arith, j.long) in
        let room : 0 + length j.so_far + length d ≤ length before = omega (arith, j.long, put-long h, put-room) in
        record {
          joined = joined-goes j e;
          put =
              ap (λ k. placed k d buffer) (sym place)
              ∙ ap (placed (0 + length j.so_far) d) p.put
              ∙ placed-placed 0 j.so_far d before room;
        }
