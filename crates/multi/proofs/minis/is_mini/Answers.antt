-- `multi::minis::is_mini` meets its contract. Assumes nothing.
use mathlib.Core.Path.{ap, ◌∙◌}
use Rattle.metafile.specs.Bytes.{starts}
use Rattle.metafile.specs.Multi.{mini_label}
use Rattle.laws.proofs.Loops.{part-drop}
use Rattle.multi.proofs.minis.is_mini.Goals as goal

pub returns : goal.returns
returns c =
    let a = c.args in
    c.begins_mini.ensures ∙ ap (starts mini_label) (part-drop a.r.now a.at)
