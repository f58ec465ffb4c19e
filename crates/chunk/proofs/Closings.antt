-- The closing: "mark, integrity data, mark", three stages from the place `at` on.
--     mark-.. integrity-.. closing-last   each of the three, from where the one before ends
--     closing-fits   a closing that has no fault ends inside
--     sum_is         the sum's digits, and the sum of the bytes before them
-- Assumes nothing.
use Prim.Native.Nat.{ℕ, ◌+◌, ◌≤◌}
use mathlib.Core.Path.{◌≡◌, refl, ◌∙◌}
use mathlib.Core.List.{List, [], ◌∷◌, ◌++◌}
use native.Mathlib.Omega.{arith}
use lib.Dec.{eqb}
use lib.ListN.{length, take, drop}
use Rattle.metafile.specs.Bytes.{part, sum}
use Rattle.metafile.specs.Fields.{count_value}
use Rattle.metafile.specs.Lines.{fixed, lines_of, size, run, table}
use Rattle.metafile.specs.Closing.{summed, unsummed, closing, sum_place, sum_good}
use Rattle.table.specs.Codes.{lines_from}
use Rattle.laws.proofs.Distances.{lines, size-closing}
use Rattle.laws.proofs.Stages.{fits}
use Rattle.std.specs.declared.result.Result.{Result}
use Rattle.std.specs.declared.result.Result.TheVariants.{Ok, Err}
use Rattle.metafile.specs.declared.refusal.Refusal.{Refusal}
use Rattle.metafile.specs.Refusals.{number_of}
use Rattle.lines.specs.declared.reader.Refused.{Refused}
use Rattle.lines.specs.Parts.{fault_taken, Takes}
use Rattle.lines.proofs.Runs.{takes-stop, takes-fits, takes-go}

size-integrity : size (lines_of (lines_from 16 6)) ≡ 254
unfolding lines lines_from table
size-integrity = refl

is-closing : (m : List ℕ) → closing m ≡ (fixed m ∷ []) ++ (lines_of (lines_from 16 6) ++ fixed m ∷ [])
unfolding closing summed unsummed lines lines_from table
is-closing m = refl

module _ {m s : List ℕ} {at : ℕ} where
  pub mark-stop : {x : Refused} → Takes (fixed m ∷ []) at s (Err x) → number_of x.refusal ≡ run (closing m) (drop at s)
  mark-stop {x = x} e = rw (is-closing m) (takes-stop (fixed m ∷ []) (lines_of (lines_from 16 6) ++ fixed m ∷ []) s at x e)

  module _ {p : ℕ} (e : Takes (fixed m ∷ []) at s (Ok p)) where
    pub mark-room : at ≤ length s → p ≤ length s
    mark-room h = takes-fits (fixed m ∷ []) [] s at p e h

    behind : run (lines_of (lines_from 16 6) ++ fixed m ∷ []) (drop p s) ≡ run (closing m) (drop at s)
    behind = rw (is-closing m) (takes-go (fixed m ∷ []) (lines_of (lines_from 16 6) ++ fixed m ∷ []) s at p e)

    pub integrity-stop : (x : Refusal) → number_of x ≡ run (lines_of (lines_from 16 6)) (drop p s) → number_of x ≡ run (closing m) (drop at s)
    integrity-stop x g =
        takes-stop (lines_of (lines_from 16 6)) (fixed m ∷ []) s p (record { refusal = x; behind = p + 254 }) (record { first = g; behind = omega (arith, size-integrity) }) ∙ behind

    module _ (g : 0 ≡ run (lines_of (lines_from 16 6)) (drop p s)) where
      -- the integrity data, as the field reader would answer them
      integrity-taken : Takes (lines_of (lines_from 16 6)) p s (Ok (p + 254))
      integrity-taken = record { first = g; behind = omega (arith, size-integrity) }

      pub integrity-room : at ≤ length s → p + 254 ≤ length s
      integrity-room h = takes-fits (lines_of (lines_from 16 6)) [] s p (p + 254) integrity-taken (mark-room h)

      pub closing-last : {q : Result ℕ Refused} → Takes (fixed m ∷ []) (p + 254) s q → fault_taken q ≡ run (closing m) (drop at s)
      closing-last l = l.first ∙ takes-go (lines_of (lines_from 16 6)) (fixed m ∷ []) s p (p + 254) integrity-taken ∙ behind

pub closing-fits : (m s : List ℕ) (at : ℕ) → run (closing m) (drop at s) ≡ 0 → at ≤ length s → at + length m + 254 + length m ≤ length s
closing-fits m s at z h = omega (arith, fits (closing m) (length m + 254 + length m) at s (size-closing m) h z)

pub sum_is : (m s : List ℕ) (at v n : ℕ) → v ≡ count_value (part (at + length m + 250) 3 s) → n ≡ sum (take (at + length m + 250) s) → eqb v n ≡ sum_good at m s
unfolding sum_good sum_place
sum_is m s at v n ev en = rw (ev, en)
