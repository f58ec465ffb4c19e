-- `relations_check::text_lines::count` meets its contract. Assumes nothing.
use mathlib.Core.Logic.{inl}
use mathlib.Core.Path.{ap, ◌∙◌}
use native.Mathlib.Omega.{arith}
use borrow.Author.Rules.{rules}
use borrow.Author.Tests.{tests}
use lib.ListN.{length}
use Rattle.std.proofs.lemmas.Iterator.Consumers.{YieldsList-from_first, YieldsList-from_filter, count_from_yields_List}
use Rattle.metafile.specs.Relations.{split_on}
use Rattle.relation_line.specs.Form.{has_name}
use Rattle.relations_check.specs.Judged.{never}
use Rattle.relations_check.specs.TextLines.{lines_left}
use Rattle.relations_check.proofs.Lines.{lines-few, named-long}
use Rattle.relations_check.proofs.text_lines.count.Goals as goal

pub count-requires-clause-fits : goal.count-requires-clause-fits
count-requires-clause-fits c = inl (omega (arith, lines-few 10 c.args.text.now, ap length c.of.ensures, ap (λ s. length (lines_left s)) c.filter.ensures.source, c.well_formed))

pub returns : goal.returns
returns c =
    let lines = split_on 10 c.args.text.now in
    let named = YieldsList-from_filter _ has_name (YieldsList-from_first (λ x. x.now) lines_left lines (ap lines_left c.filter.ensures.source ∙ c.of.ensures)) c.filter.ensures.closure (λ x r q k. search (rules, tests)) in
    count_from_yields_List c.filter.result c.count.result c.count.ensures.ran named
    ∙ named-long never lines
