-- The refusals by their numbers, as the table under "What a refused call gives" has them. Assumes nothing.
use Rattle.std.specs.Prelude.{ℕ}
use Rattle.std.specs.declared.result.Result.{Result}
use Rattle.std.specs.declared.result.Result.TheVariants.{Ok, Err}
use Rattle.metafile.specs.declared.refusal.Refusal.{Refusal}
use Rattle.metafile.specs.declared.refusal.Refusal.TheVariants.{Title, Tape, MiniMark, Short, Differs, Form, Length, ShortId, KnownSerial, RowsFull, OverLimit, NotClean, NoRow, NoDependency, ZeroInMark, Open, Multichunk, NoRoom, NotRelations, Heading, Total, Circle, RowsOver64, BlockSum, BlockNumber, BlockUse}

abbrev pub number_of : Refusal → ℕ
number_of Title = 1
number_of Tape = 2
number_of MiniMark = 3
number_of Short = 4
number_of Differs = 5
number_of Form = 6
number_of Length = 7
number_of ShortId = 8
number_of KnownSerial = 9
number_of RowsFull = 10
number_of OverLimit = 11
number_of NotClean = 12
number_of NoRow = 13
number_of NoDependency = 14
number_of ZeroInMark = 15
number_of Open = 16
number_of Multichunk = 17
number_of NoRoom = 18
number_of NotRelations = 19
number_of Heading = 20
number_of Total = 21
number_of Circle = 23
number_of RowsOver64 = 24
number_of BlockSum = 27
number_of BlockNumber = 28
number_of BlockUse = 29

-- the number of what may be refused: 0 where it isn't
abbrev pub fault_in : {A : Type 0} → Result A Refusal → ℕ
fault_in (Ok a) = 0
fault_in (Err r) = number_of r
