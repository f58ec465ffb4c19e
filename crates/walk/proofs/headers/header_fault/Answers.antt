-- `walk::headers::header_fault` meets its contract. Assumes nothing.
use Prim.Native.Nat.{◌+◌, ◌≤◌}
use mathlib.Core.Path.{refl, sym}
use lib.ListN.{length}
use lib.Seq.{length-take-le}
use Rattle.std.proofs.lemmas.Result.{err_from_is_err_and}
use Rattle.metafile.specs.Header.{mark_length}
use Rattle.lines.proofs.Runs.{refused}
use Rattle.walk.proofs.Stages.{stage-short, stage-title, stage-mark, stage-fits, stage-closing}
use native.Mathlib.Omega.{arith}
use Rattle.walk.proofs.headers.header_fault.Goals as goal

pub returns-then-file-lt-MARK : goal.returns-then-file-lt-MARK
returns-then-file-lt-MARK c = stage-short _ c.if-file-lt-MARK.true

pub slice_bounds-title_fault-end : goal.slice_bounds-title_fault-end
slice_bounds-title_fault-end c = sym (length-take-le 65 c.args.file.now (omega arith))

pub title_fault-requires : goal.title_fault-requires
title_fault-requires c = length-take-le 65 c.args.file.now (omega arith)

pub returns-in_err-title_fault : goal.returns-in_err-title_fault
returns-in_err-title_fault c =
    let p = err_from_is_err_and c.from_residual.result c.from_residual.ensures.1 in
    rw (p.1, p.2) (stage-title _ (omega arith) _ c.in_err-title_fault.ensures (refused _))

pub returns-in_err-mark_fault : goal.returns-in_err-mark_fault
unfolding mark_length
returns-in_err-mark_fault c =
    let p = err_from_is_err_and c.from_residual-in_err-mark_fault.result c.from_residual-in_err-mark_fault.ensures.1 in
    rw (p.1, p.2) (stage-mark _ (omega arith) _ c.in_ok-title_fault.ensures refl _ c.count_value-n.ensures _ c.in_err-mark_fault.ensures (refused _))

pub overflow_add-n : goal.overflow_add-n
unfolding mark_length
overflow_add-n c =
    let inside : 65 + c.count_value-n.result ≤ length c.args.file.now =
    stage-fits c.args.file.now (omega arith) _ c.in_ok-title_fault.ensures refl _ c.count_value-n.ensures _ c.in_ok-mark_fault.ensures refl in
    omega arith

pub slice_bounds-closing_fault-end : goal.slice_bounds-closing_fault-end
unfolding mark_length
slice_bounds-closing_fault-end c =
    stage-fits c.args.file.now (omega arith) _ c.in_ok-title_fault.ensures refl _ c.count_value-n.ensures _ c.in_ok-mark_fault.ensures refl

pub returns : goal.returns
unfolding mark_length
returns c =
    stage-closing _ (omega arith) _ c.in_ok-title_fault.ensures refl _ c.count_value-n.ensures _ c.in_ok-mark_fault.ensures refl _ c.closing_fault.ensures
