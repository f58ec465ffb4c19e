-- `multi::types::types_part` meets its contract. The loop: the types from the place 65 on have the
-- faults, the end and the short IDs of those left, behind those kept. Assumes nothing.
use Rattle.metafile.specs.Multi.{multi_length}
use Rattle.multi.proofs.TypeWalk.{Walk}
use Rattle.multi.proofs.types.types_part.Given as goal

abbrev pub invariant-loop-i : goal.invariant-loop-i
invariant-loop-i l = Walk l.r l.n (multi_length l.r) l.at l.i l.ids
