-- Serial numbers "are compared by their first 35 bytes".
--     same_first same_by                    by these bytes alone
--     serial-refl serial-sym serial-trans   each is the same as itself, in either order, and two that are the same as a third
--     serial-swap                           what is compared with one is compared with the other
--     check-value check-follows             35 bytes are enough: the check's value follows from them
-- Assumes nothing.
use Prim.Native.Nat.{ℕ}
use mathlib.Core.Bool.{Bool, true, ◌&&◌}
use mathlib.Core.Path.{◌≡◌, sym, ap, ◌∙◌}
use mathlib.Core.List.{List}
use lib.Dec.{eqb}
use lib.ListN.{take}
use borrow.Author.Tests.{eqb-true}
use Rattle.metafile.specs.Bytes.{bytes, part, all, same, sum}
use Rattle.metafile.specs.Fields.{digits_to, is_count, count_value, is_text, is_date, is_serial, same_serial}
use Rattle.laws.proofs.First.{and_both}
use Rattle.laws.proofs.Lists.{same-eq, same_refl}

pub same_first : (x y : List ℕ) → same_serial x y ≡ true → take 35 x ≡ take 35 y
unfolding same_serial
same_first x y e = same-eq (take 35 x) (take 35 y) e

pub same_by : (x y : List ℕ) → take 35 x ≡ take 35 y → same_serial x y ≡ true
unfolding same_serial
same_by x y e = rw e (same_refl (take 35 y))

pub serial-refl : (x : List ℕ) → same_serial x x ≡ true
unfolding same_serial
serial-refl x = same_refl (take 35 x)

pub serial-sym : (x y : List ℕ) → same_serial x y ≡ true → same_serial y x ≡ true
serial-sym x y e = same_by y x (sym (same_first x y e))

pub serial-trans : (x y z : List ℕ) → same_serial x y ≡ true → same_serial y z ≡ true → same_serial x z ≡ true
serial-trans x y z e f = same_by x z (same_first x y e ∙ same_first y z f)

pub serial-swap : (x y z : List ℕ) → same_serial x y ≡ true → same_serial x z ≡ same_serial y z
unfolding same_serial
serial-swap x y z e = rw (same_first x y e)

-- ---- the check

pub check-value : (x : List ℕ) → is_serial x ≡ true → count_value (part 35 3 x) ≡ sum (take 35 x)
unfolding is_serial
check-value x e =
    let before : Bool =
    same (part 0 1 x) (bytes "#")
    && is_date (part 1 8 x)
    && digits_to 23 (part 9 2 x)
    && digits_to 59 (part 11 2 x)
    && digits_to 59 (part 13 2 x)
    && digits_to 999 (part 15 3 x)
    && all is_text (part 18 12 x)
    && digits_to 65535 (part 30 5 x)
    && is_count (part 35 3 x) in
    eqb-true _ _ (and_both before (eqb (count_value (part 35 3 x)) (sum (take 35 x))) e).1

pub check-follows : (x y : List ℕ) → is_serial x ≡ true → is_serial y ≡ true → same_serial x y ≡ true → count_value (part 35 3 x) ≡ count_value (part 35 3 y)
check-follows x y e f s = check-value x e ∙ ap sum (same_first x y s) ∙ sym (check-value y f)
