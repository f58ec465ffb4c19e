-- `begin::is_nul` meets its contract. Assumes nothing.
use mathlib.Core.Path.{◌≡◌}
use borrow.Author.Rules.{rules}
use lib.ListN.{length}
use Rattle.lines.specs.Words.{word_no}
use Rattle.writer.proofs.Placed.{part-whole}
use Rattle.begin.proofs.is_nul.Goals as goal

pub returns : goal.returns
unfolding word_no
returns c =
    let long : length c.args.strategy ≡ 3 = search rules in
    rw (part-whole c.args.strategy 3 long) at c.is_word.ensures
