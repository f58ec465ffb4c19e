-- `walk::walks::row_of` meets its contract. Assumes nothing.
use mathlib.Core.Path.{refl}
use native.Mathlib.Omega.{arith}
use Rattle.walk.proofs.Index.{indexed-more}
use Rattle.walk.proofs.Named.{named-11}
use Rattle.walk.proofs.walks.row_of.Goals as goal

pub returns-then-file-gt-LIMIT-clause-named : goal.returns-then-file-gt-LIMIT-clause-named
returns-then-file-gt-LIMIT-clause-named c = named-11 _ _ c.if-file-gt-LIMIT.true refl

pub returns-then-file-gt-LIMIT-clause-indexed : goal.returns-then-file-gt-LIMIT-clause-indexed
returns-then-file-gt-LIMIT-clause-indexed c = indexed-more c.requires (omega arith)
