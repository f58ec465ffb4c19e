-- `chunk::contents::length_line_fault` meets its contract. Assumes nothing.
use mathlib.Core.Path.{sym}
use mathlib.Core.List.{[]}
use native.Mathlib.Omega.{arith}
use Rattle.std.proofs.lemmas.Result.{err_from_is_err_and}
use Rattle.metafile.specs.Lines.{opened}
use Rattle.metafile.specs.Chunk.{content_count}
use Rattle.table.specs.Codes.{line_no}
use Rattle.lines.proofs.Runs.{refused, takes-fits}
use Rattle.chunk.proofs.Plain.{line-bad, line-long, line-none, line-end}
use Rattle.chunk.proofs.contents.length_line_fault.Goals as goal

pub returns-in_err-line : goal.returns-in_err-line
returns-in_err-line c =
    let p = err_from_is_err_and c.from_residual.result c.from_residual.ensures.1 in
    rw (p.1, p.2) (line-bad c.args.llc c.args.r.now _ c.in_err-line.ensures.first (refused _))

pub count_at-requires : goal.count_at-requires
count_at-requires c = (omega arith, line-long c.args.llc _ (sym c.in_ok-line.ensures.first))

pub returns-then-llc-count_at : goal.returns-then-llc-count_at
unfolding content_count
returns-then-llc-count_at c =
    line-none c.args.llc _ (sym c.in_ok-line.ensures.first) _ c.count_at.ensures c.if-llc-count_at.true

pub read_field-requires : goal.read_field-requires
read_field-requires c =
    (takes-fits (opened (line_no 11)) [] c.args.r.now 0 _ c.in_ok-line.ensures (omega arith), omega arith, omega arith)

pub returns-in_err-read_field : goal.returns-in_err-read_field
unfolding content_count
returns-in_err-read_field c =
    let p = err_from_is_err_and c.from_residual-in_err-read_field.result c.from_residual-in_err-read_field.ensures.1 in
    rw (p.1, p.2) (line-end c.args.llc _ (sym c.in_ok-line.ensures.first) _ c.count_at.ensures c.if-llc-count_at.false c.in_ok-line.line _ (omega (arith, c.in_ok-line.ensures.behind)) c.in_err-read_field.ensures.first)

pub returns : goal.returns
unfolding content_count
returns c =
    line-end c.args.llc _ (sym c.in_ok-line.ensures.first) _ c.count_at.ensures c.if-llc-count_at.false
    c.in_ok-line.line _ (omega (arith, c.in_ok-line.ensures.behind)) c.in_ok-read_field.ensures.first
