-- `relations_write::found::Listed::put_listed` meets its contract. The loop's invariant: the lines of the dependencies before dependency j
-- are put, up to q. Assumes nothing.
use Rattle.relations_write.specs.Counted.{ListedPut}
use Rattle.relations_write.proofs.found.Listed.put_listed.Given as goal

abbrev pub invariant-loop-j : goal.invariant-loop-j
invariant-loop-j l =
    ListedPut l.self.file.now l.serial l.at l.j l.p l.q l.initial.buffer l.buffer
