-- `walk::source::Source::mark` meets its contract. Assumes nothing.
use native.Mathlib.Omega.{arith}
use Rattle.walk.proofs.Stages.{mark-part, mark-inside}
use Rattle.walk.proofs.Sources.{begun, whole}
use Rattle.walk.proofs.source.Source.mark.Goals as goal

pub overflow_add-result : goal.overflow_add-result
overflow_add-result c = omega (arith, mark-inside _ (whole c.args.self) _ (begun c.args.self).mark-is)

pub slice_bounds-result-end : goal.slice_bounds-result-end
slice_bounds-result-end c = omega (arith, mark-inside _ (whole c.args.self) _ (begun c.args.self).mark-is)

pub returns : goal.returns
returns c = mark-part _ (whole c.args.self) _ (begun c.args.self).mark-is
