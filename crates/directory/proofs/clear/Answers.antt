-- `directory::clear` meets its contract. Assumes nothing.
use Rattle.std.proofs.Common.{rules}
use Rattle.directory.proofs.Laws.{cleared}
use Rattle.directory.proofs.clear.Goals as goal

pub returns : goal.returns
returns c = cleared c.args.d.now c.fill.new.self c.requires (search rules)
