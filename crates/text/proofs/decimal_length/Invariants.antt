-- `text::decimal_length` meets its contract. The loop's invariant: the digits counted and those of the number left are one more
-- than the digits. The measure: the number left. Assumes nothing.
use Prim.Native.Nat.{◌+◌, ◌≤◌}
use mathlib.Core.Path.{◌≡◌}
use lib.ListN.{length}
use Rattle.metafile.specs.Listing.{decimal}
use Rattle.text.proofs.decimal_length.Given as goal

abbrev pub invariant-loop-rest : goal.invariant-loop-rest
invariant-loop-rest l = (l.rest ≤ l.x) × (l.n + length (decimal l.rest) ≡ length (decimal l.x) + 1)

abbrev pub decreases-loop-rest : goal.decreases-loop-rest
decreases-loop-rest l = l.rest
