-- `relations_check::text_lines::is_headed` meets its contract. Assumes nothing.
use mathlib.Core.Path.{ap, ◌∙◌}
use borrow.Author.Rules.{rules}
use Rattle.metafile.specs.Bytes.{same}
use Rattle.metafile.specs.Lines.{first_of}
use Rattle.metafile.specs.Relations.{heading}
use Rattle.relations_check.specs.TextLines.{lines_left}
use Rattle.relations_check.proofs.Lines.{headed}
use Rattle.relations_check.proofs.text_lines.is_headed.Goals as goal

pub returns : goal.returns
returns c =
    headed (lines_left c.of.result) _ c.next.result c.is_some_and.result _ c.next.ensures.steps c.is_some_and.ensures (λ l p. search rules)
    ∙ ap (λ ls. same (first_of ls) heading) c.of.ensures
