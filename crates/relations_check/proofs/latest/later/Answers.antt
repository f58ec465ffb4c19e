-- `relations_check::latest::later` meets its contract. Assumes nothing.
use mathlib.Core.Path.{refl, sym, ◌∙◌}
use native.Mathlib.Omega.{arith}
use Rattle.relations_check.proofs.Choosing.{holding-passed, holding-earlier, holding-first, holding-later, some-holds, none-held}
use Rattle.relations_check.proofs.latest.later.Goals as goal

pub returns-then-not-is_relations : goal.returns-then-not-is_relations
returns-then-not-is_relations c = holding-passed _ _ _ c.requires.holding (sym c.is_relations.ensures ∙ c.if-not-is_relations.true)

pub returns-in-Some : goal.returns-in-Some
returns-in-Some c =
    holding-earlier _ _ (sym c.is_relations.ensures ∙ c.if-not-is_relations.false) _ c.writing_day-day.ensures c.in-Some.other
    (some-holds _ _ c.args.best _ c.in-Some.is c.requires.holding) (omega (arith, c.if-day-other.true))

pub returns-in_default : goal.returns-in_default
returns-in_default c =
    holding-later _ _ (sym c.is_relations.ensures ∙ c.if-not-is_relations.false) _ c.writing_day-day.ensures c.in-Some.other
    (some-holds _ _ c.args.best _ c.in-Some.is c.requires.holding) (omega (arith, c.if-day-other.false)) c.requires.at_row refl

pub returns-in_default-2 : goal.returns-in_default-2
returns-in_default-2 c =
    holding-first _ _ (sym c.is_relations.ensures ∙ c.if-not-is_relations.false) _ c.writing_day-day.ensures
    (none-held _ _ c.args.best c.in_default.is c.requires.holding) c.requires.at_row refl
