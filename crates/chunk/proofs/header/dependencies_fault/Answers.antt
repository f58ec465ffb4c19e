-- `chunk::header::dependencies_fault` meets its contract. The loop's invariant: the run is that of the dependencies
-- left, from the place `at` on. Assumes nothing.
use Prim.Native.Nat.{◌-◌}
use mathlib.Core.Path.{◌≡◌}
use native.Mathlib.Omega.{arith}
use Rattle.std.proofs.lemmas.Result.{err_from_is_err_and}
use Rattle.chunk.proofs.Headers.{dependencies-begun, dependencies-lf, dependencies-first, dependencies-fit, dependencies-stop, dependencies-next, dependencies-end}
use Rattle.chunk.proofs.header.dependencies_fault.Goals as goal

pub returns-in_err-at : goal.returns-in_err-at
returns-in_err-at c =
    let p = err_from_is_err_and c.from_residual.result c.from_residual.ensures.1 in
    rw (p.1, p.2) (dependencies-lf c.args.n c.in_err-at.ensures)

pub loop-init : goal.loop-init
loop-init c =
    let all : c.args.n - 0 ≡ c.args.n = omega arith in (
      dependencies-first c.args.n c.in_ok-at.ensures (omega arith),
      rw all (dependencies-begun c.args.n c.in_ok-at.ensures),
    )

pub returns-in_err-at-2 : goal.returns-in_err-at-2
returns-in_err-at-2 c =
    let p = err_from_is_err_and c.from_residual-in_err-at-2.result c.from_residual-in_err-at-2.ensures.1 in
    rw (p.1, p.2) (dependencies-stop (omega arith) c.loop.invariant.1 c.in_err-at-2.ensures)

pub loop-preserved : goal.loop-preserved
loop-preserved c = (
  dependencies-fit (omega arith) c.loop.invariant.1 c.in_ok-at-2.ensures c.loop.invariant.0,
  dependencies-next (omega arith) c.loop.invariant.1 c.in_ok-at-2.ensures,
)

pub returns : goal.returns
returns c = dependencies-end c.args.s.now _ c.loop.at _ (omega arith) c.loop.invariant.1
