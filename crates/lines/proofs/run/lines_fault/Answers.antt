-- `lines::run::lines_fault` meets its contract. Assumes nothing.
use Prim.Native.Nat.{◌+◌, ◌-◌}
use mathlib.Core.Path.{◌≡◌}
use mathlib.Core.List.{[], ◌∷◌}
use native.Mathlib.Omega.{arith}
use Rattle.metafile.specs.Lines.{lines_of}
use Rattle.table.specs.Codes.{line_no}
use Rattle.lines.proofs.Runs.{lines_end, lines-stop, lines_next, takes-fits}
use Rattle.std.proofs.lemmas.Result.{err_from_is_err_and}
use Rattle.lines.proofs.run.lines_fault.Goals as goal

pub loop-i-init : goal.loop-i-init
loop-i-init c =
    let all : c.args.first + c.args.n - c.args.first ≡ c.args.n = omega arith in
    record { fits = omega arith; left = rw all }

pub read_line-requires : goal.read_line-requires
read_line-requires c = omega arith

pub returns-in_err-p : goal.returns-in_err-p
returns-in_err-p c =
    let p = err_from_is_err_and c.from_residual.result c.from_residual.ensures.1 in
    rw (p.1, p.2) (lines-stop c.args.s.now _ c.loop-i.p c.loop-i.i (c.args.first + c.args.n) c.loop-i.invariant.left (omega arith) (omega arith) _ c.in_err-p.ensures)

pub loop-i-preserved : goal.loop-i-preserved
loop-i-preserved c =
    record {
      fits = takes-fits (lines_of (line_no c.loop-i.i ∷ [])) [] c.args.s.now c.loop-i.p _ c.in_ok-p.ensures (omega arith);
      left = lines_next c.args.s.now _ c.loop-i.p c.loop-i.i (c.args.first + c.args.n) c.loop-i.invariant.left (omega arith) (omega arith) _ c.in_ok-p.ensures;
    }

pub returns : goal.returns
returns c = lines_end c.args.s.now _ c.loop-i.p c.loop-i.i (c.args.first + c.args.n) c.loop-i.invariant.left (omega arith)
