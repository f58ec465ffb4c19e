-- `walk::source::Source::serial_place` meets its contract. Assumes nothing.
use Prim.Native.Nat.{◌+◌, ◌≤◌}
use mathlib.Core.Path.{◌≡◌}
use lib.ListN.{length}
use native.Mathlib.Omega.{arith}
use Rattle.walk.specs.Walk.{serial_at}
use Rattle.walk.proofs.Sources.{begun, whole}
use Rattle.walk.proofs.Ahead.{Stands, stands, serial-place-is}
use Rattle.walk.proofs.source.Source.serial_place.Goals as goal
use Rattle.walk.proofs.source.Source.serial_place.Goals.{Start}

place : (k : Start) → k.args.at + k.args.l.contents + k.args.l.bytes + k.args.self.header.mark + 20 ≡ serial_at k.args.self.file.now k.args.at
place k = serial-place-is _ (whole k.args.self) _ _ k.requires.l_value k.requires.number_value _ (begun k.args.self).mark-is

inside : (k : Start) → k.args.at + k.args.l.contents + k.args.l.bytes + k.args.self.header.mark + 58 ≤ length k.args.self.file.now
inside k =
    let here : Stands k.args.self.file.now k.args.at k.args.l = stands _ _ _ k.requires.at_in_bounds k.requires.l_value k.requires.number_value in
    omega (arith, place k, here.serial-inside, here.inside)

pub overflow_add-result : goal.overflow_add-result
overflow_add-result c = omega (arith, inside (goal.at.overflow_add-result c).Start)

pub overflow_add-result-2 : goal.overflow_add-result-2
overflow_add-result-2 c = omega (arith, inside (goal.at.overflow_add-result-2 c).Start)

pub overflow_add-result-3 : goal.overflow_add-result-3
overflow_add-result-3 c = omega (arith, inside (goal.at.overflow_add-result-3 c).Start)

pub overflow_add-result-4 : goal.overflow_add-result-4
overflow_add-result-4 c = omega (arith, inside (goal.at.overflow_add-result-4 c).Start)

pub returns-clause-place : goal.returns-clause-place
returns-clause-place c = place (goal.at.returns-clause-place c).Start

pub returns-clause-inside : goal.returns-clause-inside
returns-clause-inside c = omega (arith, inside (goal.at.returns-clause-inside c).Start)
