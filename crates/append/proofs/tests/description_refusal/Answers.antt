-- `append::tests::description_refusal` meets its contract. Assumes nothing.
use mathlib.Core.Bool.{true}
use mathlib.Core.Path.{◌≡◌, sym, ◌∙◌}
use borrow.Author.Tests.{not-true, not-false}
use Rattle.metafile.specs.Append.{append_formed}
use Rattle.writer.proofs.Described.{formed-fits}
use Rattle.append.proofs.Held.{refused-6, refused-17, described}
use mathlib.Core.Path.{ap}
use mathlib.Core.Bool.{not}
use Rattle.append.proofs.tests.description_refusal.Goals as goal
use Rattle.append.proofs.tests.description_refusal.Goals.{Else-not-is_formed}

in-form : (c : Else-not-is_formed) → append_formed c.args.d ≡ true
in-form c = sym c.is_formed.ensures ∙ not-false _ (ap not c.if-not-is_formed.false)

pub returns-then-not-is_formed : goal.returns-then-not-is_formed
returns-then-not-is_formed c = refused-6 c.args.d (sym c.is_formed.ensures ∙ not-true _ (ap not c.if-not-is_formed.true))

pub is_multichunk-requires : goal.is_multichunk-requires
is_multichunk-requires c = (formed-fits c.args.d (in-form c)).name

pub returns-then-is_multichunk : goal.returns-then-is_multichunk
returns-then-is_multichunk c = refused-17 c.args.d (in-form (goal.at.returns-then-is_multichunk c).Else-not-is_formed) (sym c.is_multichunk.ensures ∙ c.if-is_multichunk.true)

pub returns : goal.returns
returns c = described c.args.d (in-form (goal.at.returns c).Else-not-is_formed) (sym c.is_multichunk.ensures ∙ c.if-is_multichunk.false)
