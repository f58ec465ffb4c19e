-- `blocks::judge::blocks_fault` meets its contract. The loop's invariant: the blocks before `i` have no fault. Assumes nothing.
use Rattle.std.proofs.Common.{◌≡◌}
use Rattle.metafile.specs.Below.{fault_below}
use Rattle.blocks.specs.Blocks.{fault_of}
use Rattle.blocks.proofs.judge.blocks_fault.Given as goal

abbrev pub invariant-loop-i : goal.invariant-loop-i
invariant-loop-i l = fault_below l.i (fault_of l.x) ≡ 0
