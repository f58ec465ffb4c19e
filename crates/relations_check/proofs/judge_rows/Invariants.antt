-- `relations_check::judge_rows` meets its contract. Assumes nothing.
use Prim.Native.Nat.{◌-◌, ◌≤◌, ◌<◌}
use mathlib.Core.Path.{◌≡◌}
use lib.ListN.{length}
use Rattle.index.specs.Index.{size}
use Rattle.walk.specs.Cursor.{Behind}
use Rattle.relations_check.specs.Judged.{Judging}
use Rattle.relations_check.proofs.Judgings.{tail}
use Rattle.relations_check.proofs.judge_rows.Given as goal

abbrev pub invariant-loop-k : goal.invariant-loop-k
invariant-loop-k l =
    (l.k ≤ l.end.row) × (0 < l.end.row → Behind l.file l.h l.k l.at) × (length l.d ≡ size) × (length l.verdicts ≡ length l.initial.verdicts)
    × Judging l.file l.k l.text l.verdicts × (tail l.text l.verdicts ≡ tail l.text l.initial.verdicts)

abbrev pub decreases-loop-k : goal.decreases-loop-k
decreases-loop-k l = l.end.row - l.k
