-- `blocks::write::put_blocks` meets its contract. The loop's invariant: the blocks before `i` are put. Assumes nothing.
use Rattle.metafile.specs.Below.{join_below}
use Rattle.text.specs.Put.{Put}
use Rattle.blocks.specs.Blocks.{block_for}
use Rattle.blocks.proofs.write.put_blocks.Given as goal

abbrev pub invariant-loop-i : goal.invariant-loop-i
invariant-loop-i l = Put (join_below l.i (block_for l.file)) 0 l.initial.buffer l.at l.buffer
