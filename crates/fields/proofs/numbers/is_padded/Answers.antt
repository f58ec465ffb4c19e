-- `fields::numbers::is_padded` meets its contract. Assumes nothing.
use mathlib.Core.Path.{◌∙◌}
use Rattle.metafile.specs.Fields.{is_digit, is_count}
use Rattle.fields.proofs.Prefix.{spaces-passed, whole_is}
use Rattle.fields.proofs.numbers.is_padded.Goals as goal

pub returns : goal.returns
unfolding is_count is_digit
returns c = rw (whole_is is_digit _ _ c.leading.ensures, c.after-rest.ensures ∙ spaces-passed _)
