-- The definitions of specs/Shifts on marks that the checker computes. Assumes nothing.
use Prim.Native.Nat.{ℕ}
use mathlib.Core.Bool.{true}
use mathlib.Core.Path.{◌≡◌, refl}
use mathlib.Core.List.{[], ◌∷◌, map}
use lib.ListN.{replicate}
use Rattle.metafile.specs.Bytes.{bytes, all, same, starts, find}
use Rattle.search.specs.Shifts.{shift_from, shift_of, common_of, ahead, further_from, step_of, tries, is_in, without}

-- of ABA: the last A is left out, so 2 for A, 1 for B, 3 for any other
pub shifts-ABA : map (λ (x : ℕ). shift_of (bytes "ABA") x) (bytes "ABC") ≡ 2 ∷ 1 ∷ 3 ∷ []
unfolding shift_of shift_from
shifts-ABA = refl

-- of one byte: 1 for all
pub shifts-A : map (λ (x : ℕ). shift_of (bytes "A") x) (bytes "AB") ≡ 1 ∷ 1 ∷ []
unfolding shift_of shift_from
shifts-A = refl

-- QABAB has ABAB at 1: tried at 0, where Q stands, and there
pub tries-QABAB : tries (bytes "ABAB") 0 (bytes "QABAB") ≡ 2
unfolding tries step_of further_from ahead common_of shift_of shift_from find starts same
tries-QABAB = refl

-- Seven stars under the mark and then another byte: the mark's last byte agrees, the eighth doesn't. By the last byte the mark
-- could move 1, by the one that differs 8, as it is not in the mark and one byte before its last.
pub ahead-by-other : ahead (replicate 9 42) (bytes "*******X**") ≡ 8
unfolding ahead common_of shift_of shift_from
ahead-by-other = refl

-- 32 bytes without one of a mark of 16: two places, and the bound of `few` is met; 31 bytes: one
pub tries-twice : tries (replicate 16 42) 0 (replicate 32 81) ≡ 2
unfolding tries step_of further_from ahead common_of shift_of shift_from find starts same
tries-twice = refl

pub tries-once : tries (replicate 16 42) 0 (replicate 31 81) ≡ 1
unfolding tries step_of further_from ahead common_of shift_of shift_from find starts same
tries-once = refl

pub no-star : without (replicate 16 42) (replicate 32 81) ≡ true
unfolding without all is_in
no-star = refl
