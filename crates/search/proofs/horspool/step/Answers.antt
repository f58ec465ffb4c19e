-- `search::horspool::step` meets its contract. Assumes nothing.
use Prim.Native.Nat.{ℕ, ◌<◌}
use mathlib.Core.Path.{◌≡◌, sym, ap, ◌∙◌}
use native.Mathlib.Omega.{arith}
use lib.ListN.{length, get_or}
use Rattle.search.specs.Shifts.{last_of, further_from}
use Rattle.search.proofs.Shifts.{shift-within, shift-entry, common-most, step-last, step-found, step_other}
use Rattle.search.proofs.horspool.step.Goals as goal
use Rattle.search.proofs.horspool.step.Goals.{After-common-n}

pub further-requires : goal.further-requires
further-requires c =
    let shifted = c in
    let start = shifted in
    let m = start.args.mark.now in
    let x = last_of m start.args.s.now in
    let e = shift-entry m start.args.table.now x shifted.shift-by_last.result start.requires.table_value shifted.shift-by_last.ensures in
    (omega arith, omega (arith, e, (shift-within m x (omega arith)).1))

pub returns-then-s-last : goal.returns-then-s-last
returns-then-s-last c =
    let shifted = c in
    let start = shifted in
    let m = start.args.mark.now in
    let s = start.args.s.now in
    let e = shift-entry m start.args.table.now (last_of m s) shifted.shift-by_last.result start.requires.table_value shifted.shift-by_last.ensures in
    step-last m s c.further.result (omega arith) c.if-s-last.true (c.further.ensures ∙ ap (λ (a : ℕ). further_from m s a) e)

pub returns-then-n-mark : goal.returns-then-n-mark
returns-then-n-mark c =
    let compared = c in
    let start = compared in
    step-found start.args.mark.now start.args.s.now (omega arith) (sym compared.common-n.ensures ∙ c.if-n-mark.true)

-- where the bytes don't all agree, the first that differs is one of the mark's
differs : (c : After-common-n) → (c.common-n.result ≡ length c.args.mark.now → ⊥)
    → c.common-n.result < length c.args.mark.now
differs c n =
    let args = c.args in
    omega (arith, common-most args.mark.now args.s.now, c.common-n.ensures, n)

pub bounds-s-n : goal.bounds-s-n
bounds-s-n c = omega (arith, differs (goal.at.bounds-s-n c).After-common-n c.if-n-mark.false)

pub overflow_sub-last-2 : goal.overflow_sub-last-2
overflow_sub-last-2 c = omega (arith, differs (goal.at.overflow_sub-last-2 c).After-common-n c.if-n-mark.false)

pub further-requires-2 : goal.further-requires-2
further-requires-2 c =
    let other = c in
    let compared = other in
    let shifted = compared in
    let start = shifted in
    let m = start.args.mark.now in
    let table = start.args.table.now in
    let x = last_of m start.args.s.now in
    let y = get_or start.args.s.now compared.common-n.result 0 in
    let a = shift-entry m table x shifted.shift-by_last.result start.requires.table_value shifted.shift-by_last.ensures in
    let b = shift-entry m table y other.shift.result start.requires.table_value other.shift.ensures in
    (omega arith, omega (arith, a, b, (shift-within m x (omega arith)).1, (shift-within m y (omega arith)).1, c.saturating_sub-by_other.ensures, c.max.ensures))

pub returns : goal.returns
returns c =
    let other = c in
    let compared = other in
    let shifted = compared in
    let start = shifted in
    let m = start.args.mark.now in
    let s = start.args.s.now in
    let table = start.args.table.now in
    let n = compared.common-n.result in
    let a = shift-entry m table (last_of m s) shifted.shift-by_last.result start.requires.table_value shifted.shift-by_last.ensures in
    let b = shift-entry m table (get_or s n 0) other.shift.result start.requires.table_value other.shift.ensures in
    step_other m s n shifted.shift-by_last.result other.shift.result c.saturating_sub-by_other.result c.max.result c.further-2.result
    (omega arith) compared.if-s-last.false compared.common-n.ensures other.if-n-mark.false a b
    c.saturating_sub-by_other.ensures c.max.ensures c.further-2.ensures
