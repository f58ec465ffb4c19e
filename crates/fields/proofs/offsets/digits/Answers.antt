-- `fields::offsets::digits` meets its contract. Assumes nothing.
use Rattle.metafile.specs.Fields.{is_digit}
use Rattle.fields.proofs.Prefix.{first-length, prefix-is}
use Rattle.fields.proofs.offsets.digits.Goals as goal

pub slice_bounds-result-end : goal.slice_bounds-result-end
slice_bounds-result-end c = first-length _ _ _ c.leading-n.ensures

pub returns : goal.returns
unfolding is_digit
returns c = prefix-is _ _ _ c.leading-n.ensures
