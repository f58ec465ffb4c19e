-- `lines::write::put_number` meets its contract. The loop's invariant: the digits of what is left, put before those that stand,
-- make the digits of the number. Assumes nothing.
use mathlib.Core.Path.{◌≡◌}
use Rattle.metafile.specs.Fields.{digits_of}
use Rattle.metafile.specs.Answers.{placed}
use Rattle.lines.proofs.write.put_number.Given as goal

abbrev pub invariant-loop-k : goal.invariant-loop-k
invariant-loop-k l = placed l.at (digits_of l.n l.x) l.initial.buffer ≡ placed l.at (digits_of l.k l.rest) l.buffer
