-- `next` of `multi::gather::Under` meets its contract. Assumes nothing.
use Prim.Native.Nat.{◌+◌, ◌-◌}
use mathlib.Core.Path.{◌≡◌, sym, ap}
use mathlib.Core.List.{[], ◌∷◌}
use native.Mathlib.Omega.{arith}
use lib.ListN.{length, take, drop}
use Rattle.multi.specs.Part.{data_under, each_under}
use Rattle.multi.proofs.MiniStages.{under-none, under-slice}
use Rattle.multi.proofs.MiniWalk.{whole-fits, whole-next, under-next, under-end}
use Rattle.multi.proofs.gather.UnderIterator.next.Goals.{After-mini_bytes, Then-same_bytes, Else-same_bytes}
use Rattle.multi.proofs.gather.UnderIterator.next.Goals as goal

-- what the mini-chunk adds, before what is left
step : (c : After-mini_bytes) → each_under c.args.self.now.id.now 0 (drop c.args.self.now.at c.args.self.now.r.now)
    ≡ data_under c.args.self.now.id.now (drop c.args.self.now.at c.args.self.now.r.now) ∷ each_under c.args.self.now.id.now 0 (drop (c.args.self.now.at + c.mini_bytes.result) c.args.self.now.r.now)
step c = rw c.mini_bytes.ensures (under-next c.args.self.now.whole (sym c.if-not-is_mini.ensures) c.args.self.now.id.now)

pub returns-then-not-is_mini-clause-steps : goal.returns-then-not-is_mini-clause-steps
returns-then-not-is_mini-clause-steps c =
    let e = under-end c.args.self.now.whole c.args.self.now.id.now (sym c.if-not-is_mini.ensures) in (e, e)

pub mini_bytes-requires : goal.mini_bytes-requires
mini_bytes-requires c = whole-fits c.args.self.now.whole (sym c.if-not-is_mini.ensures)

pub overflow_add-self : goal.overflow_add-self
overflow_add-self c =
    omega (arith, c.mini_bytes.ensures, whole-fits c.args.self.now.whole (sym c.if-not-is_mini.ensures))

pub invariant_of-self : goal.invariant_of-self
invariant_of-self c =
    record { whole = rw c.mini_bytes.ensures (whole-next c.args.self.now.whole (sym c.if-not-is_mini.ensures)) }

-- the item is what the mini-chunk adds
item : (c : Then-same_bytes) → data_under c.args.self.now.id.now (drop c.args.self.now.at c.args.self.now.r.now)
    ≡ take (c.args.self.now.at + c.mini_bytes.result - (c.args.self.now.at + 32)) (drop (c.args.self.now.at + 32) c.args.self.now.r.now)
item c = under-slice c.args.self.now.id.now c.args.self.now.at c.args.self.now.r.now c.same_bytes.ensures c.if-same_bytes.true c.mini_bytes.ensures

nothing : (c : Else-same_bytes) → data_under c.args.self.now.id.now (drop c.args.self.now.at c.args.self.now.r.now) ≡ []
nothing c = under-none c.args.self.now.id.now c.args.self.now.at c.args.self.now.r.now c.same_bytes.ensures c.if-same_bytes.false

pub returns-then-same_bytes-clause-steps : goal.returns-then-same_bytes-clause-steps
returns-then-same_bytes-clause-steps c =
    rw (← item (goal.at.returns-then-same_bytes-clause-steps c).Then-same_bytes) (step (goal.at.returns-then-same_bytes-clause-steps c).After-mini_bytes)

pub returns-then-same_bytes-clause-goes : goal.returns-then-same_bytes-clause-goes
returns-then-same_bytes-clause-goes c =
    record {
      on = λ _. (tt, tt, omega (arith, ap length (step (goal.at.returns-then-same_bytes-clause-goes c).After-mini_bytes)));
      keeps = tt;
      rests = λ _. tt;
    }

pub returns-clause-steps : goal.returns-clause-steps
returns-clause-steps c =
    rw (← nothing (goal.at.returns-clause-steps c).Else-same_bytes) (step (goal.at.returns-clause-steps c).After-mini_bytes)

pub returns-clause-goes : goal.returns-clause-goes
returns-clause-goes c =
    record {
      on = λ _. (tt, tt, omega (arith, ap length (step (goal.at.returns-clause-goes c).After-mini_bytes)));
      keeps = tt;
      rests = λ _. tt;
    }
