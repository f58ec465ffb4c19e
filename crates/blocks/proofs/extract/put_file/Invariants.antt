-- `blocks::extract::put_file` meets its contract. The loop's invariant: the data of the blocks before `i` are put. Assumes nothing.
use Rattle.metafile.specs.Below.{join_below}
use Rattle.text.specs.Put.{Put}
use Rattle.blocks.specs.Blocks.{data_of}
use Rattle.blocks.proofs.extract.put_file.Given as goal

abbrev pub invariant-loop-i : goal.invariant-loop-i
invariant-loop-i l = Put (join_below l.i (data_of l.x)) 0 l.initial.buffer l.p l.buffer
