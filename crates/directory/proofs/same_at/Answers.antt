-- `directory::same_at` meets its contract. Assumes nothing.
use mathlib.Core.Path.{◌∙◌}
use Rattle.directory.proofs.Laws.{same-part}
use Rattle.directory.proofs.same_at.Goals as goal

pub returns : goal.returns
returns c = c.same_bytes.ensures ∙ same-part c.args.file.now c.args.serial.now c.args.key
