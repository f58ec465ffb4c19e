-- `kernels::kernel_find` meets its contract. Assumes nothing.
use mathlib.Core.Path.{◌≡◌, ◌∙◌, ap}
use mathlib.Core.Bool.{Bool, true, false, cond}
use mathlib.Core.List.{List, append-nil}
use Prim.Native.Nat.{ℕ}
use Rattle.metafile.specs.Bytes.{find}
use Rattle.search.proofs.Shifts.{has-shifts}
use Rattle.kernels.proofs.kernel_find.Goals as goal

counted_none : (b : Bool) (n : ℕ) → b ≡ true → 0 ≡ cond b 0 n
counted_none b n e = rw e

counted-all : (b : Bool) (t n : ℕ) → b ≡ false → t ≡ n → t ≡ cond b 0 n
counted-all b t n e h = rw e h

pub returns-then-m : goal.returns-then-m
returns-then-m c =
    let args = c.args in record { place_value = c.find_plain.ensures ∙ ap (λ (v : List ℕ). find args.mark.now v) (append-nil args.s.now); tried_value = counted_none _ _ c.if-m.true }

pub sought-requires : goal.sought-requires
sought-requires c = has-shifts _ c.if-m.false

pub returns : goal.returns
returns c = record { place_value = c.sought.ensures.0; tried_value = counted-all _ _ _ c.if-m.false c.sought.ensures.1 }
