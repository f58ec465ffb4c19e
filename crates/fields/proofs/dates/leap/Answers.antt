-- `fields::dates::leap` meets its contract. Assumes nothing.
use mathlib.Core.Path.{refl}
use Rattle.metafile.specs.Fields.{leap}
use Rattle.fields.proofs.dates.leap.Goals as goal

pub returns : goal.returns
unfolding leap
returns c = refl
