-- `append::tests::is_formed` meets its contract. Assumes nothing.
use native.Mathlib.Omega.{arith}
use borrow.Author.Rules.{rules}
use Rattle.writer.proofs.Described.{Widths, given-size, closing-size, unformed, formed-is}
use Rattle.append.proofs.tests.is_formed.Goals as goal
use Rattle.append.proofs.tests.is_formed.Goals.{Start, then-d-gt-NAME-via-then-d-gt-NAME, then-d-gt-NAME-via-else-d-gt-NAME+then-d-gt-AGENT, then-d-gt-NAME-via-else-d-gt-NAME+else-d-gt-AGENT+then-d-gt-AGENT-2}

widths : (s : Start) → Widths s.args.d
widths s =
    record {
      generic = search rules;
      synch = search rules;
      standard = search rules;
      alternate = search rules;
      offset = search rules;
      event = search rules;
      linked = search rules;
      serial = search rules;
      recorded = search rules;
      written = search rules;
    }

pub returns-then-d-gt-NAME : goal.returns-then-d-gt-NAME
returns-then-d-gt-NAME c =
    elim c.then-d-gt-NAME.branch [
      | then-d-gt-NAME-via-then-d-gt-NAME w ↦ unformed c.args.d (λ f. omega (arith, f.name, w.if-d-gt-NAME.true))
      | then-d-gt-NAME-via-else-d-gt-NAME+then-d-gt-AGENT w ↦ unformed c.args.d (λ f. omega (arith, f.recorder, w.if-d-gt-AGENT.true))
      | then-d-gt-NAME-via-else-d-gt-NAME+else-d-gt-AGENT+then-d-gt-AGENT-2 w ↦ unformed c.args.d (λ f. omega (arith, f.writer, w.if-d-gt-AGENT-2.true))
    ]

pub values_formed-requires : goal.values_formed-requires
values_formed-requires c = (omega arith, rw given-size (search rules))

pub values_formed-requires-2 : goal.values_formed-requires-2
values_formed-requires-2 c = (omega arith, rw closing-size (search rules))

pub returns : goal.returns
returns c =
    formed-is c.args.d (widths (goal.at.returns c).Start) (record { name = c.if-d-gt-NAME.false; recorder = c.if-d-gt-AGENT.false; writer = c.if-d-gt-AGENT-2.false })
    c.values_formed.result c.values_formed-2.result c.given_values-given.result c.closing_values-closing.result
    c.given_values-given.ensures c.closing_values-closing.ensures c.values_formed.ensures c.values_formed-2.ensures
