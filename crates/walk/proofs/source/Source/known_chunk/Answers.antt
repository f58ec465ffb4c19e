-- `walk::source::Source::known_chunk` meets its contract. Assumes nothing.
use mathlib.Core.Path.{sym, ◌∙◌}
use Rattle.laws.proofs.Loops.{part-drop}
use Rattle.walk.proofs.Sources.{begun}
use Rattle.walk.proofs.source.Source.known_chunk.Goals as goal
use Rattle.laws.proofs.First.{choose-go}
use Rattle.chunk.specs.Layout.{layout_of, faulty}
use Rattle.walk.specs.Walk.{chunk_at}

pub parts_of-requires : goal.parts_of-requires
parts_of-requires c = rw (c.mark.ensures, part-drop c.args.self.file.now c.args.at, (begun c.args.self).llc-is) c.requires.file_value

pub returns : goal.returns
unfolding chunk_at layout_of
returns c =
    c.parts_of.ensures
    ∙ rw (c.mark.ensures, part-drop c.args.self.file.now c.args.at) (sym (choose-go _ _ faulty c.requires.file_value))
