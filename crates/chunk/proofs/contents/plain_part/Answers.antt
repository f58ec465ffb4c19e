-- `chunk::contents::plain_part` meets its contract. Assumes nothing.
use mathlib.Core.Path.{◌≡◌, sym}
use native.Mathlib.Omega.{arith}
use Rattle.std.proofs.lemmas.Result.{err_from_is_err_and}
use Rattle.metafile.specs.Chunk.{plain_bytes, content_count}
use Rattle.lines.proofs.Runs.{refused}
use Rattle.chunk.proofs.Plain.{line-whole, plain-line, plain-bytes-is, plain-short, plain-whole}
use Rattle.chunk.proofs.contents.plain_part.Goals as goal
use Rattle.chunk.proofs.contents.plain_part.Goals.{After-data_bytes-bytes}

bytes-are : (c : After-data_bytes-bytes) → c.data_bytes-bytes.result ≡ plain_bytes c.args.mark.now c.args.r.now
unfolding content_count
bytes-are c = plain-bytes-is c.args.mark.now c.args.r.now _ _ c.count_at.ensures c.data_bytes-bytes.ensures

pub returns-in_err-length_line_fault : goal.returns-in_err-length_line_fault
returns-in_err-length_line_fault c =
    let p = err_from_is_err_and c.from_residual.result c.from_residual.ensures.1 in
    rw (p.1, p.2) (plain-line c.args.llc c.args.mark.now c.args.r.now _ c.in_err-length_line_fault.ensures (refused _))

pub slice_bounds-rest-count : goal.slice_bounds-rest-count
slice_bounds-rest-count c = omega (arith, line-whole c.args.llc _ (sym c.in_ok-length_line_fault.ensures))

pub slice_bounds-rest-start : goal.slice_bounds-rest-start
slice_bounds-rest-start c = omega (arith, line-whole c.args.llc _ (sym c.in_ok-length_line_fault.ensures))

pub count_at-requires : goal.count_at-requires
count_at-requires c = omega (arith, line-whole c.args.llc _ (sym c.in_ok-length_line_fault.ensures))

pub returns-then-rest-bytes : goal.returns-then-rest-bytes
returns-then-rest-bytes c =
    plain-short c.args.llc c.args.mark.now c.args.r.now (sym c.in_ok-length_line_fault.ensures) _ (bytes-are (goal.at.returns-then-rest-bytes c).After-data_bytes-bytes)
    (omega (arith, line-whole c.args.llc _ (sym c.in_ok-length_line_fault.ensures)))

pub returns : goal.returns
returns c =
    plain-whole c.args.llc c.args.mark.now c.args.r.now (sym c.in_ok-length_line_fault.ensures) _ (bytes-are (goal.at.returns c).After-data_bytes-bytes)
    (omega (arith, line-whole c.args.llc _ (sym c.in_ok-length_line_fault.ensures)))
