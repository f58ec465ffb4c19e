-- `lines::judge::verdict` meets its contract. Assumes nothing.
use borrow.Author.Rules.{rules}
use Rattle.metafile.specs.Bytes.{require}
use Rattle.lines.proofs.judge.verdict.Goals as goal

pub returns-then-good : goal.returns-then-good
unfolding require
returns-then-good c = search rules

pub returns-else-good : goal.returns-else-good
unfolding require
returns-else-good c = search rules
