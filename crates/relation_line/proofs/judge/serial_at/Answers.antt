-- `relation_line::judge::serial_at` meets its contract. Assumes nothing.
use Prim.Native.Nat.{◌+◌}
use mathlib.Core.Path.{refl, ap, ◌∙◌}
use native.Mathlib.Omega.{arith}
use lib.ListN.{drop}
use lib.Seq.{take-take}
use Rattle.std.proofs.Common.{is_some}
use Rattle.laws.proofs.Stages.{slice_is}
use Rattle.relation_line.proofs.Forms.{serial-there, day-there}
use Rattle.relation_line.proofs.judge.serial_at.Goals as goal

pub returns : goal.returns
returns c =
    let s = c.args.line.now in
    c.is_ok.ensures.value
    ∙ day-there _ c.fault.result c.fault.ensures
    ∙ ap is_some c.read_serial-day.ensures
    ∙ rw (
      c.serial_from.ensures,
      slice_is c.args.at (c.args.at + 38) 38 s refl,
      take-take 38 38 (drop c.args.at s) (omega arith),
    )
    (serial-there _)
