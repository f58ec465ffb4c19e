-- `append::tests::is_clean` meets its contract. Assumes nothing.
use mathlib.Core.Path.{◌∙◌}
use Rattle.append.proofs.Held.{clean_is}
use Rattle.append.proofs.tests.is_clean.Goals as goal

pub returns : goal.returns
returns c =
    let start = c in
    c.clean_at.ensures ∙ clean_is start.args.file.now start.args.number start.args.stop start.requires.0 start.requires.1
