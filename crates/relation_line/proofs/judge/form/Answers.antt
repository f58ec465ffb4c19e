-- `relation_line::judge::form` meets its contract. Assumes nothing.
use mathlib.Core.Path.{◌≡◌, sym, ap, ◌∙◌}
use mathlib.Core.Bool.{true}
use Rattle.relation_line.specs.Form.{has_name, form_number}
use Rattle.relation_line.proofs.Forms.{verdict-none, verdict-formed, verdict-unformed, verdict-form}
use Rattle.relation_line.proofs.judge.form.Goals as goal
use Rattle.relation_line.proofs.judge.form.Goals.{Else-not-is_named}

named : (c : Else-not-is_named) → has_name c.args.line.now ≡ true
named c = cc

pub returns-then-not-is_named-clause-verdict : goal.returns-then-not-is_named-clause-verdict
returns-then-not-is_named-clause-verdict c = verdict-none c.args.line.now (cc)

pub returns-then-not-is_named-clause-number : goal.returns-then-not-is_named-clause-number
returns-then-not-is_named-clause-number c =
    ap form_number (verdict-none c.args.line.now (cc)) ∙ verdict-form c.args.line.now

pub returns-then-is_formed-clause-verdict : goal.returns-then-is_formed-clause-verdict
returns-then-is_formed-clause-verdict c =
    verdict-formed c.args.line.now (named (goal.at.returns-then-is_formed-clause-verdict c).Else-not-is_named) (sym c.is_formed.ensures ∙ c.if-is_formed.true)

pub returns-then-is_formed-clause-number : goal.returns-then-is_formed-clause-number
returns-then-is_formed-clause-number c =
    ap form_number (verdict-formed c.args.line.now (named (goal.at.returns-then-is_formed-clause-number c).Else-not-is_named) (sym c.is_formed.ensures ∙ c.if-is_formed.true))
    ∙ verdict-form c.args.line.now

pub returns-clause-verdict : goal.returns-clause-verdict
returns-clause-verdict c =
    verdict-unformed c.args.line.now (named (goal.at.returns-clause-verdict c).Else-not-is_named) (sym c.is_formed.ensures ∙ c.if-is_formed.false)

pub returns-clause-number : goal.returns-clause-number
returns-clause-number c =
    ap form_number (verdict-unformed c.args.line.now (named (goal.at.returns-clause-number c).Else-not-is_named) (sym c.is_formed.ensures ∙ c.if-is_formed.false))
    ∙ verdict-form c.args.line.now
