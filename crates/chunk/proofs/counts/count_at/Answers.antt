-- `chunk::counts::count_at` meets its contract. Assumes nothing.
use mathlib.Core.Path.{sym, ◌∙◌}
use native.Mathlib.Nat.{add-sub_cancel_left}
use Rattle.chunk.proofs.Valued.{count-behind}
use Rattle.chunk.proofs.counts.count_at.Goals as goal

pub returns-then-counts_nothing : goal.returns-then-counts_nothing
returns-then-counts_nothing c =
    let none = c in
    let some = none in
    let args = some.args in
    c.count_value.ensures
    ∙ count-behind args.s.now args.at args.n some.if-n-gt8.true (sym none.counts_nothing.ensures ∙ none.if-counts_nothing.true)

pub returns : goal.returns
returns c = rw add-sub_cancel_left at c.count_value-2.ensures
