-- `multi::runs::length_at` meets its contract. Assumes nothing.
use mathlib.Core.Path.{refl, ap, ◌∙◌}
use Rattle.metafile.specs.Fields.{count_value}
use Rattle.laws.proofs.Stages.{slice_is}
use Rattle.multi.proofs.runs.length_at.Goals as goal

pub returns : goal.returns
returns c =
    let a = c.args in
    c.count_value.ensures ∙ ap count_value (slice_is a.at _ 12 a.r.now refl)
