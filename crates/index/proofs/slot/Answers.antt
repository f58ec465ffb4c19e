-- `index::slot` meets its contract. Assumes nothing.
use Prim.Native.Nat.{◌%◌}
use mathlib.Core.Path.{refl}
use native.Mathlib.Omega.{arith}
use Rattle.index.specs.Index.{slot_of}
use Rattle.index.proofs.Loops.{square-small}
use Rattle.index.proofs.slot.Goals as goal

pub overflow_mul-result : goal.overflow_mul-result
overflow_mul-result c = omega (arith, square-small (c.args.hash % 2147483647) (omega arith))

pub returns : goal.returns
unfolding slot_of
returns c = (refl, omega arith)
