-- `begin::Given::is_formed` meets its contract. Assumes nothing.
use native.Mathlib.Omega.{arith}
use borrow.Author.Rules.{rules}
use Rattle.writer.proofs.Described.{closing-size}
use Rattle.begin.specs.Given.{given_in}
use Rattle.begin.proofs.Formed.{Widths, title-values-size, mark-fits, recorder-fits, writer-fits, unformed, formed-is}
use Rattle.begin.proofs.Given.is_formed.Goals as goal
use Rattle.begin.proofs.Given.is_formed.Goals.{Start, then-self-gt999-via-then-self-gt999, then-self-gt999-via-else-self-gt999+then-self-gt-AGENT, then-self-gt999-via-else-self-gt999+else-self-gt-AGENT+then-self-gt-AGENT-2}

widths : (s : Start) → Widths (given_in s.args.self.now)
widths s = record { strategy = search rules; serial = search rules; recorded = search rules; written = search rules }

pub returns-then-self-gt999 : goal.returns-then-self-gt999
returns-then-self-gt999 c =
    let b = given_in c.args.self.now in
    elim c.then-self-gt999.branch [
      | then-self-gt999-via-then-self-gt999 w ↦ unformed b (λ e. omega (arith, mark-fits b e, w.if-self-gt999.true))
      | then-self-gt999-via-else-self-gt999+then-self-gt-AGENT w ↦ unformed b (λ e. omega (arith, recorder-fits b e, w.if-self-gt-AGENT.true))
      | then-self-gt999-via-else-self-gt999+else-self-gt-AGENT+then-self-gt-AGENT-2 w ↦ unformed b (λ e. omega (arith, writer-fits b e, w.if-self-gt-AGENT-2.true))
    ]

pub values_formed-requires : goal.values_formed-requires
values_formed-requires c = (omega arith, rw title-values-size (search rules))

pub values_formed-requires-2 : goal.values_formed-requires-2
values_formed-requires-2 c = (omega arith, rw closing-size (search rules))

pub returns : goal.returns
returns c =
    formed-is (given_in c.args.self.now) (widths (goal.at.returns c).Start) c.if-self-gt-AGENT.false c.if-self-gt-AGENT-2.false
    c.values_formed.result c.values_formed-2.result c.title_values-title.result c.integrity_values.result
    c.if-self-gt999.false c.title_values-title.ensures c.integrity_values.ensures c.values_formed.ensures c.values_formed-2.ensures
