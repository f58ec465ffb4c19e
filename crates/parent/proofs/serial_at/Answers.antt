-- `parent::serial_at` meets its contract. Assumes nothing.
use mathlib.Core.Path.{ap, ◌∙◌}
use lib.ListN.{take}
use Rattle.laws.proofs.Loops.{part-drop}
use Rattle.parent.proofs.serial_at.Goals as goal

pub returns : goal.returns
returns c =
    let a = c.args in
    c.serial_from.ensures ∙ ap (take 38) (part-drop a.file.now a.at)
