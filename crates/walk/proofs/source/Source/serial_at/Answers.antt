-- `walk::source::Source::serial_at` meets its contract. Assumes nothing.
use mathlib.Core.Path.{◌∙◌}
use Rattle.laws.proofs.Loops.{part-drop}
use Rattle.walk.proofs.source.Source.serial_at.Goals as goal
use Rattle.metafile.specs.Header.{is_llc}
use Rattle.walk.specs.Walk.{chunk_at}

pub chunk_serial-requires : goal.chunk_serial-requires
unfolding chunk_at
chunk_serial-requires c =
    record {
      llc = is_llc c.args.self.file.now;
      is = c.requires.l_value ∙ rw (c.mark.ensures, part-drop c.args.self.file.now c.args.at);
      whole = c.requires.number_value;
    }

pub returns : goal.returns
returns c = c.chunk_serial.ensures ∙ rw (c.mark.ensures, part-drop c.args.self.file.now c.args.at)
