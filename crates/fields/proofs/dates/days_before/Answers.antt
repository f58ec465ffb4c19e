-- `fields::dates::days_before` meets its contract. Assumes nothing.
use mathlib.Core.Path.{sym}
use Rattle.metafile.proofs.DayNumbers.{years-closed}
use Rattle.fields.proofs.dates.days_before.Goals as goal

pub returns : goal.returns
returns c = sym (years-closed _)
