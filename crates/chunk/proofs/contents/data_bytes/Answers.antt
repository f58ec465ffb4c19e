-- `chunk::contents::data_bytes` meets its contract. Assumes nothing.
use native.Mathlib.Omega.{arith}
use lib.ListN.{length-take}
use Rattle.chunk.proofs.Plain.{data-open, data-counted}
use Rattle.chunk.proofs.contents.data_bytes.Goals as goal

pub slice_bounds-find_mark-end : goal.slice_bounds-find_mark-end
slice_bounds-find_mark-end c = simp length-take (omega arith)

pub returns-then-count-eq0 : goal.returns-then-count-eq0
returns-then-count-eq0 c =
    let a = c.args in
    data-open a.mark.now a.rest.now a.count _ c.if-count-eq0.true c.find_mark.ensures

pub returns : goal.returns
returns c =
    let a = c.args in
    data-counted a.mark.now a.rest.now a.count c.if-count-eq0.false
