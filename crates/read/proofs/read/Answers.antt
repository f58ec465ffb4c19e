-- `read::read` meets its contract. Assumes nothing.
use Rattle.std.proofs.Common.{◌≡◌, [], ◌∷◌, false, length, arith}
use Rattle.metafile.specs.Answers.{over_limit}
use Rattle.laws.proofs.Accepted.{limit-over, limit-under}
use Rattle.walk.proofs.Index.{indexed-none}
use Rattle.walk.proofs.Cursors.{there}
use Rattle.read.proofs.Turns.{begins, turn, over, full, stops}
use Rattle.read.proofs.read.Goals as goal
use Rattle.read.proofs.read.Goals.{After-first-c}

under : (c : After-first-c) → over_limit (length c.args.file.now ∷ []) ≡ false
under c = limit-under (length c.args.file.now) c.if-file-gt-LIMIT.false

pub returns-then-file-gt-LIMIT : goal.returns-then-file-gt-LIMIT
returns-then-file-gt-LIMIT c = over c.args.file.now c.args.rows.now (limit-over (length c.args.file.now) [] c.if-file-gt-LIMIT.true)

pub first-c-requires : goal.first-c-requires
first-c-requires c = rw c.empty_index-index.ensures (indexed-none c.args.file.now 0)

pub loop-c-init : goal.loop-c-init
loop-c-init c = begins c.args.file.now c.args.rows.now c.first-c.ensures

pub returns-then-room-c : goal.returns-then-room-c
returns-then-room-c c =
    rw c.ended.ensures (full _ _ c.loop-c.invariant c.loop-c-test.true (omega (arith, c.if-room-c.true, c.loop-c.invariant.len)) (under (goal.at.returns-then-room-c c).After-first-c))

pub row-requires : goal.row-requires
row-requires c = record { c_value = c.loop-c.invariant.at.is; go_value = c.loop-c-test.true }

pub next-c-requires : goal.next-c-requires
next-c-requires c = record { at = c.loop-c.invariant.at; go_value = c.loop-c-test.true }

pub loop-c-smaller : goal.loop-c-smaller
loop-c-smaller c = omega (arith, (there c.loop-c.invariant.at c.loop-c-test.true).turn.row, c.next-c.ensures.1)

pub loop-c-preserved : goal.loop-c-preserved
loop-c-preserved c =
    turn _ _ c.loop-c.invariant c.loop-c-test.true (omega (arith, c.if-room-c.false, c.loop-c.invariant.len)) _ c.row.ensures c.next-c.ensures

pub returns : goal.returns
returns c = rw c.ended-2.ensures (stops _ _ c.loop-c.invariant c.loop-c-test.false (under (goal.at.returns c).After-first-c))
