-- Lines that have no fault, one by one, have none together.
--     bytes_of                     the bytes of line i, from its row
--     clean_line clean-none        a line without a fault, and the lines behind it
--     head-spans integrity-spans   the bytes of the lines of a chunk's head, of its integrity data
-- Assumes nothing.
use Prim.Native.Nat.{ℕ, suc, ◌+◌, ◌<◌}
use mathlib.Core.Bool.{true, true≢false}
use mathlib.Core.Path.{◌≡◌, refl, sym, ◌∙◌}
use mathlib.Core.List.{List, [], ◌∷◌}
use native.Mathlib.Omega.{arith}
use lib.ListN.{drop}
use Rattle.metafile.specs.Lines.{lines_of, size, run}
use Rattle.table.specs.Codes.{line_no, codes, code_no, lines_from}
use Rattle.std.specs.declared.result.Result.{Result}
use Rattle.std.specs.declared.result.Result.TheVariants.{Ok, Err}
use Rattle.std.specs.Result.{is_ok}
use Rattle.lines.specs.declared.reader.Refused.{Refused}
use Rattle.lines.specs.Parts.{Takes}
use Rattle.lines.proofs.Runs.{opened-size, line-size, takes-go, lines-one, lines_of-cons}

pub bytes_of : (i : ℕ) → i < 24 → size (lines_of (line_no i ∷ [])) ≡ (code_no i).long + (code_no i).width + 1
bytes_of i h = omega (arith, line-size i h, opened-size i h (code_no i) refl)

-- a line that the code takes, and n lines behind it
pub clean_line : (i n p q : ℕ) (s : List ℕ) (r : Result ℕ Refused) → i < 24 → q ≡ p + size (lines_of (line_no i ∷ [])) → Takes (lines_of (line_no i ∷ [])) p s r → is_ok r ≡ true
    → 0 ≡ run (lines_of (lines_from (i + 1) n)) (drop q s) → 0 ≡ run (lines_of (lines_from i (suc n))) (drop p s)
clean_line i n p q s (Err x) h w e z next = absurd (true≢false (sym z))
clean_line i n p q s (Ok b) h w e z next =
    let same : q ≡ b = omega (arith, e.behind) in
    rw same at next
    ∙ takes-go (lines_of (line_no i ∷ [])) (lines_of (lines_from (i + 1) n)) s p b e
    ∙ rw (lines-one i n h, lines_of-cons (line_no i) (lines_from (i + 1) n))

pub clean-none : (i p : ℕ) (s : List ℕ) → 0 ≡ run (lines_of (lines_from i 0)) (drop p s)
unfolding lines_from lines_of run
clean-none i p s = refl

pub head-spans : (size (lines_of (line_no 0 ∷ [])) ≡ 33) × (size (lines_of (line_no 1 ∷ [])) ≡ 270) × (size (lines_of (line_no 2 ∷ [])) ≡ 17) × (size (lines_of (line_no 3 ∷ [])) ≡ 26) × (size (lines_of (line_no 4 ∷ [])) ≡ 62) × (size (lines_of (line_no 5 ∷ [])) ≡ 35) × (size (lines_of (line_no 6 ∷ [])) ≡ 60) × (size (lines_of (line_no 7 ∷ [])) ≡ 37)
unfolding codes code_no
head-spans = (bytes_of 0 (omega arith), bytes_of 1 (omega arith), bytes_of 2 (omega arith), bytes_of 3 (omega arith), bytes_of 4 (omega arith), bytes_of 5 (omega arith), bytes_of 6 (omega arith), bytes_of 7 (omega arith))

pub integrity-spans : (size (lines_of (line_no 16 ∷ [])) ≡ 59) × (size (lines_of (line_no 17 ∷ [])) ≡ 30) × (size (lines_of (line_no 18 ∷ [])) ≡ 55) × (size (lines_of (line_no 19 ∷ [])) ≡ 28) × (size (lines_of (line_no 20 ∷ [])) ≡ 53) × (size (lines_of (line_no 21 ∷ [])) ≡ 29)
unfolding codes code_no
integrity-spans = (bytes_of 16 (omega arith), bytes_of 17 (omega arith), bytes_of 18 (omega arith), bytes_of 19 (omega arith), bytes_of 20 (omega arith), bytes_of 21 (omega arith))
