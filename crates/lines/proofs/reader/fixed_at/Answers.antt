-- `lines::reader::fixed_at` meets its contract. Assumes nothing.
use mathlib.Core.Path.{◌∙◌}
use Rattle.metafile.specs.Lines.{fixed, field_width}
use Rattle.lines.proofs.Runs.{taken-one}
use Rattle.lines.proofs.reader.fixed_at.Goals as goal

pub returns : goal.returns
unfolding field_width
returns c =
    taken-one (fixed c.args.text.now) c.args.at c.args.s.now _ (c.taken.ensures.0 ∙ c.fixed_fault.ensures) c.taken.ensures.1
