-- `fields::numbers::within` meets its contract. Assumes nothing.
use Rattle.std.proofs.Common.{arith}
use Rattle.std.proofs.lemmas.Grind.{common_steps}
use Rattle.fields.proofs.Prefix.{within, all-std}
use Rattle.fields.proofs.numbers.within.Goals as goal

pub returns : goal.returns
returns c = all-std (within c.args.low c.args.high) _ _ (grind (arith, common_steps))
