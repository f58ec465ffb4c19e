-- `fields::dates::day_number` meets its contract. Assumes nothing.
use mathlib.Core.Path.{sym, ◌∙◌}
use Rattle.metafile.specs.Days.{day_value_of}
use Rattle.fields.proofs.Days.{read-on}
use Rattle.fields.proofs.dates.day_number.Goals as goal

pub number_on-requires-clause-day_value : goal.number_on-requires-clause-day_value
number_on-requires-clause-day_value c =
    rw (c.from.ensures, c.from-in-Some.ensures, c.from-in-Some-2.ensures) (read-on _ c.requires.of (sym c.in-Some.is ∙ c.requires.is)).0

pub number_on-requires-clause-year_bound : goal.number_on-requires-clause-year_bound
number_on-requires-clause-year_bound c = rw c.from.ensures (read-on _ c.requires.of (sym c.in-Some.is ∙ c.requires.is)).1

pub returns-in-Some : goal.returns-in-Some
unfolding day_value_of
returns-in-Some c = rw (c.in-Some.is, ← c.from.ensures, ← c.from-in-Some.ensures, ← c.from-in-Some-2.ensures) c.number_on.ensures

pub returns-in-None : goal.returns-in-None
unfolding day_value_of
returns-in-None c = rw c.in-None.is
