-- `blocks::judge::use_right` meets its contract. Assumes nothing.
use Rattle.laws.proofs.First.{is_zero-eqb}
use Rattle.blocks.proofs.Places.{non_zero-ltb}
use Rattle.blocks.specs.Blocks.{use_right}
use Rattle.blocks.proofs.judge.use_right.Goals as goal

pub returns : goal.returns
unfolding use_right
returns c = rw (is_zero-eqb c.args.i, non_zero-ltb c.args.used)
