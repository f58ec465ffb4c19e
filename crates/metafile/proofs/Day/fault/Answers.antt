-- `metafile::Day::fault` meets its contract. Assumes nothing.
use Rattle.metafile.specs.Days.{day_fault}
use Rattle.metafile.proofs.Day.fault.Goals as goal

pub returns-in-Some : goal.returns-in-Some
unfolding day_fault
returns-in-Some c = rw c.in-Some.is

pub returns-in-None : goal.returns-in-None
unfolding day_fault
returns-in-None c = rw c.in-None.is
