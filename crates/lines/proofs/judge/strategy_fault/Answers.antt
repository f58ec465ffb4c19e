-- `lines::judge::strategy_fault` meets its contract. Assumes nothing.
use Prim.Native.Nat.{◌≤◌}
use lib.ListN.{length}
use Rattle.std.proofs.Common.{rules}
use Rattle.lines.specs.Words.{word_no}
use Rattle.lines.proofs.Judged.{strategy-stop, strategy-room, strategy-go}
use Rattle.std.proofs.lemmas.Result.{err_from_is_err_and}
use Rattle.lines.proofs.judge.strategy_fault.Goals as goal

pub returns-in_err-word_fault : goal.returns-in_err-word_fault
unfolding word_no
returns-in_err-word_fault c =
    let p = err_from_is_err_and c.from_residual.result c.from_residual.ensures.1 in
    rw (p.1, p.2) (strategy-stop c.args.s.now _ c.in_err-word_fault.ensures)

pub slice_bounds-count_fault-count : goal.slice_bounds-count_fault-count
unfolding word_no
slice_bounds-count_fault-count c = strategy-room c.args.s.now c.in_ok-word_fault.ensures

pub slice_bounds-count_fault-start : goal.slice_bounds-count_fault-start
unfolding word_no
slice_bounds-count_fault-start c =
    let room : 3 ≤ length c.args.s.now = strategy-room c.args.s.now c.in_ok-word_fault.ensures in
    search rules

pub returns : goal.returns
unfolding word_no
returns c = strategy-go c.args.s.now c.in_ok-word_fault.ensures _ c.count_fault.ensures
