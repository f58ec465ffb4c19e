-- `lines::judge::serial_fault` meets its contract. Assumes nothing.
use native.Mathlib.Omega.{arith}
use mathlib.Core.Path.{◌∙◌}
use Rattle.metafile.specs.Lines.{serial_fault}
use Rattle.lines.proofs.Judged.{judged-short, judged, long, serial-taken}
use Rattle.std.proofs.lemmas.Result.{err_from_is_err_and}
use Rattle.lines.proofs.judge.serial_fault.Goals as goal

pub returns-in_err-v : goal.returns-in_err-v
returns-in_err-v c =
    let p = err_from_is_err_and c.from_residual.result c.from_residual.ensures.1 in
    rw (p.1, p.2, c.in_err-v.ensures.0) (judged-short 38 serial_fault c.args.s.now c.in_err-v.ensures.1)

pub returns : goal.returns
unfolding serial_fault
returns c =
    let v = c.in_ok-v in
    judged 38 serial_fault c.args.s.now _ v.v.now v.ensures.0 v.ensures.1
    (c.fault.ensures ∙ rw (c.read_serial.ensures, c.serial_from.ensures, serial-taken c.args.s.now v.v.now v.ensures.1))

pub serial_from-requires : goal.serial_from-requires
serial_from-requires c = omega (arith, long c.args.s.now c.in_ok-v.v.now 38 c.in_ok-v.ensures.0 c.in_ok-v.ensures.1)
