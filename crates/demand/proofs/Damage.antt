-- Damage: bytes cut short, with some bytes zero. What a power cut leaves of a write is damaged; nothing more of the
-- 512-byte blocks is used.
--     damaged-..   closed under bytes in front and behind, drop; never longer
--     mend         bytes of a damaged list that are not zero are the old ones
--     zeroed-part  the first bytes of a write, some blocks zero, are damaged
-- Assumes nothing.
use Prim.Native.Nat.{ℕ, zero, suc, ◌/◌, ◌≤◌}
use mathlib.Core.Bool.{Bool, true}
use mathlib.Core.Path.{◌≡◌, refl, ap}
use mathlib.Core.List.{List, [], ◌∷◌, ◌++◌}
use native.Mathlib.Omega.{arith}
use lib.ListN.{length, take, drop, take-append-drop}
use Rattle.metafile.specs.Bytes.{all, is_zero, non_zero}
use Rattle.metafile.specs.Cut.{zeroed}
use Rattle.laws.proofs.First.{test, untrue, and_both}

pub data Damaged : List ℕ → List ℕ → Type 0 where
  gone : {f : List ℕ} → Damaged [] f
  kept : {x : ℕ} {s f : List ℕ} → Damaged s f → Damaged (x ∷ s) (x ∷ f)
  lost : {x : ℕ} {s f : List ℕ} → Damaged s f → Damaged (0 ∷ s) (x ∷ f)

pub damaged-append : {s f : List ℕ} (w : List ℕ) → Damaged s f → Damaged (w ++ s) (w ++ f)
damaged-append [] d = d
damaged-append (x ∷ xs) d = kept (damaged-append xs d)

pub damaged-more : {s f : List ℕ} (w : List ℕ) → Damaged s f → Damaged s (f ++ w)
damaged-more w gone = gone
damaged-more w (kept d) = kept (damaged-more w d)
damaged-more w (lost d) = lost (damaged-more w d)

pub damaged-length : {s f : List ℕ} → Damaged s f → length s ≤ length f
damaged-length gone = omega arith
damaged-length (kept d) = let h = damaged-length d in omega arith
damaged-length (lost d) = let h = damaged-length d in omega arith

pub damaged-drop : {s f : List ℕ} (n : ℕ) → Damaged s f → Damaged (drop n s) (drop n f)
damaged-drop zero d = d
damaged-drop (suc n) gone = gone
damaged-drop (suc n) (kept d) = damaged-drop n d
damaged-drop (suc n) (lost d) = damaged-drop n d

pub mend : {s f : List ℕ} (n : ℕ) → Damaged s f → n ≤ length s → all non_zero (take n s) ≡ true → take n s ≡ take n f
unfolding all non_zero is_zero
mend zero d h c = refl
mend (suc n) gone h c = absurd (omega arith)
mend (suc n) (kept {x = x} {s = s} d) h c =
    ap (λ (r : List ℕ). x ∷ r) (mend n d (omega arith) (and_both (non_zero x) (all non_zero (take n s)) c).1)
mend (suc n) (lost d) h c = untrue c

zeroed-damaged : (lost-blocks : ℕ → Bool) (p : ℕ) (s : List ℕ) → Damaged (zeroed lost-blocks p s) s
unfolding zeroed
zeroed-damaged lost-blocks p [] = gone
zeroed-damaged lost-blocks p (x ∷ xs) =
    let d = zeroed-damaged lost-blocks (suc p) xs in
    test (lost-blocks (p / 512)) (λ e. rw e (lost d)) (λ e. rw e (kept d))

pub zeroed-part : (lost-blocks : ℕ → Bool) (p k : ℕ) (s : List ℕ) → Damaged (zeroed lost-blocks p (take k s)) s
zeroed-part lost-blocks p k s = rw take-append-drop at (damaged-more (drop k s) (zeroed-damaged lost-blocks p (take k s)))
