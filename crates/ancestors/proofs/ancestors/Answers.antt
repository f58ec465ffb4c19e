-- `ancestors::ancestors` meets its contract. Assumes nothing.
use Rattle.std.proofs.Common.{◌≡◌, length, take, length-take-le, ◌∙◌, sym, arith, refl}
use Rattle.laws.proofs.Accepted.{limit-small}
use Rattle.ancestors.specs.Noted.{AllNoted}
use Rattle.ancestors.specs.Steps.{Tabled}
use Rattle.ancestors.proofs.Noting.{all_noted}
use Rattle.ancestors.proofs.Answers.{small-counts, refused-11, refused-13, refused-24, refused-23, refused-18, answered}
use Rattle.ancestors.proofs.ancestors.Goals as goal
use Rattle.ancestors.proofs.ancestors.Goals.{After-put_steps, After-count-count}

pub returns-then-over_limit : goal.returns-then-over_limit
returns-then-over_limit c = refused-11 _ _ _ (sym c.over_limit.ensures ∙ c.if-over_limit.true)

pub returns-then-n-row : goal.returns-then-n-row
returns-then-n-row c = refused-13 _ _ _ (sym c.over_limit.ensures ∙ c.if-over_limit.false) _ c.note_rows-n.ensures.0 c.if-n-row.true

pub returns-then-n-gt-ROWS : goal.returns-then-n-gt-ROWS
returns-then-n-gt-ROWS c =
    refused-24 _ _ _ (sym c.over_limit.ensures ∙ c.if-over_limit.false) _ c.note_rows-n.ensures.0 c.if-n-row.false c.if-n-gt-ROWS.true

pub put_steps-requires-clause-noted : goal.put_steps-requires-clause-noted
put_steps-requires-clause-noted c = all_noted c.note_rows-n.ensures.1 c.note_rows-n.ensures.0 c.if-n-gt-ROWS.false

-- the rows are n, and so are their steps
noted : (c : After-put_steps) → AllNoted c.args.file.now (take c.note_rows-n.result c.note_rows-n.new.rows)
noted c = all_noted c.note_rows-n.ensures.1 c.note_rows-n.ensures.0 c.if-n-gt-ROWS.false

long : (c : After-put_steps) → length (take c.note_rows-n.result c.note_rows-n.new.rows) ≡ c.note_rows-n.result
long c = omega (arith, (noted c).count, c.note_rows-n.ensures.0)

tabled : (c : After-put_steps) → Tabled c.args.file.now c.note_rows-n.result c.note_rows-n.result c.put_steps.new.table
tabled c = rw (long c) at c.put_steps.ensures.0

pub returns-in_default : goal.returns-in_default
returns-in_default c =
    refused-23 _ _ _ (sym c.over_limit.ensures ∙ c.if-over_limit.false) _ c.note_rows-n.ensures.0 c.if-n-row.false c.if-n-gt-ROWS.false _
    (tabled (goal.at.returns-in_default c).After-put_steps) c.in_default.ensures

-- the marks of the n rows
marks-long : (c : After-count-count) → length (take c.note_rows-n.result c.in-Some.reached) ≡ c.note_rows-n.result
marks-long c = length-take-le c.note_rows-n.result c.in-Some.reached (omega (arith, c.if-n-gt-ROWS.false))

pub returns-then-list-count : goal.returns-then-list-count
returns-then-list-count c =
    refused-18 _ _ _ (sym c.over_limit.ensures ∙ c.if-over_limit.false) _ c.note_rows-n.ensures.0 c.if-n-row.false c.if-n-gt-ROWS.false _
    (tabled (goal.at.returns-then-list-count c).After-put_steps) _ c.in-Some.ensures _ refl (marks-long (goal.at.returns-then-list-count c).After-count-count)
    _ c.count-count.ensures c.if-list-count.true

pub missing-requires-clause-small : goal.missing-requires-clause-small
missing-requires-clause-small c =
    small-counts (noted (goal.at.missing-requires-clause-small c).After-put_steps) c.put_steps.auto.rows (limit-small _ _ (sym c.over_limit.ensures ∙ c.if-over_limit.false)) c.put_steps.ensures.1
    _ (marks-long (goal.at.missing-requires-clause-small c).After-count-count ∙ sym (long (goal.at.missing-requires-clause-small c).After-put_steps))

pub returns : goal.returns
returns c =
    answered _ _ _ (sym c.over_limit.ensures ∙ c.if-over_limit.false) _ c.note_rows-n.ensures.0 c.if-n-row.false c.if-n-gt-ROWS.false _
    (tabled (goal.at.returns c).After-put_steps) _ c.in-Some.ensures _ refl (marks-long (goal.at.returns c).After-count-count)
    _ c.count-count.ensures _ c.put_steps.ensures.1 (c.put_steps.auto.rows ∙ long (goal.at.returns c).After-put_steps) c.if-list-count.false _ c.put_rows.ensures _ c.missing.ensures
