-- `walk::source::Source::chunk_at` meets its contract. Assumes nothing.
use mathlib.Core.Path.{◌∙◌}
use Rattle.laws.proofs.Loops.{part-drop}
use Rattle.walk.proofs.Sources.{begun}
use Rattle.walk.proofs.source.Source.chunk_at.Goals as goal
use Rattle.walk.specs.Walk.{chunk_at}

pub returns : goal.returns
unfolding chunk_at
returns c = c.layout.ensures ∙ rw (c.mark.ensures, part-drop c.args.self.file.now c.args.at, (begun c.args.self).llc-is)
