-- `search::find_mark` meets its contract: a place inside the text, else what is found from its last bytes on. Assumes nothing.
use Prim.Native.Nat.{ℕ, ◌+◌, ◌-◌, ◌≤◌, ◌<◌}
use mathlib.Core.Path.{◌≡◌}
use mathlib.Core.List.{◌++◌}
use native.Mathlib.Omega.{arith}
use lib.ListN.{length, length-append}
use Rattle.laws.proofs.Lists.{find-fits}
use Rattle.search.proofs.Shifts.{has-shifts, rest-found, rest-behind}
use Rattle.search.proofs.find_mark.Goals as goal

pub sought-found-requires : goal.sought-found-requires
sought-found-requires c = has-shifts _ c.if-m.false

pub returns-then-place-text : goal.returns-then-place-text
returns-then-place-text c =
    let searched = c in
    let args = searched.args in
    rest-found args.mark.now args.text.now args.tail.now searched.sought-found.result.place searched.sought-found.ensures.0 (omega arith)

pub overflow_sub-m : goal.overflow_sub-m
overflow_sub-m c =
    let args = c.args in
    omega (arith, (has-shifts (length args.mark.now) c.if-m.false).0)

-- how far the last bytes reach, over numbers
room : (m n r : ℕ) → 1 ≤ m → r ≡ n - (m - 1) → (d : ℕ) → d < r → d + m ≤ n
room m n r l e d h = omega arith

pub returns : goal.returns
returns c =
    let searched = c in
    let args = searched.args in
    let n = length args.text.now in
    rest-behind args.mark.now args.text.now args.tail.now c.saturating_sub-from.result searched.sought-found.result.place c.find_plain-2.result
    searched.sought-found.ensures.0 (omega arith) (omega arith)
    (room (length args.mark.now) n c.saturating_sub-from.result (has-shifts _ searched.if-m.false).0 c.saturating_sub-from.ensures)
    c.find_plain-2.ensures

pub overflow_add-result : goal.overflow_add-result
overflow_add-result c =
    let args = c.args in
    omega (arith, returns c, find-fits args.mark.now (args.text.now ++ args.tail.now), length-append args.text.now args.tail.now)
