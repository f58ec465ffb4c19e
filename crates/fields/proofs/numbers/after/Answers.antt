-- `fields::numbers::after` meets its contract. Assumes nothing.
use Rattle.fields.proofs.Prefix.{count-le, rest-is}
use Rattle.fields.proofs.numbers.after.Goals as goal

pub slice_bounds-result-count : goal.slice_bounds-result-count
slice_bounds-result-count c = count-le _ _ _ c.leading-n.ensures

pub slice_bounds-result-start : goal.slice_bounds-result-start
slice_bounds-result-start c = count-le _ _ _ c.leading-n.ensures

pub returns : goal.returns
returns c = rest-is _ _ _ c.leading-n.ensures
