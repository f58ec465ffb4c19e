-- `walk::headers::mark_fault` meets its contract. Assumes nothing.
use mathlib.Core.Path.{sym}
use native.Mathlib.Omega.{arith}
use lib.Seq.{length-take-le}
use Rattle.walk.proofs.Stages.{mark-short, mark-mini, mark-good}
use Rattle.walk.proofs.headers.mark_fault.Goals as goal

pub returns-then-r-n : goal.returns-then-r-n
returns-then-r-n c = mark-short _ _ c.if-r-n.true

pub slice_bounds-begins_mini-end : goal.slice_bounds-begins_mini-end
slice_bounds-begins_mini-end c = sym (length-take-le _ _ (omega arith))

pub returns-then-begins_mini : goal.returns-then-begins_mini
returns-then-begins_mini c = mark-mini _ _ (omega arith) _ c.begins_mini.ensures c.if-begins_mini.true

pub returns : goal.returns
returns c = mark-good _ _ (omega arith) _ c.begins_mini.ensures c.if-begins_mini.false
