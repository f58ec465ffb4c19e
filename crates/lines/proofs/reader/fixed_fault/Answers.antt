-- `lines::reader::fixed_fault` meets its contract. Assumes nothing.
use Rattle.lines.proofs.Runs.{mark-short, mark-judged}
use native.Mathlib.Omega.{arith}
use Rattle.lines.proofs.reader.fixed_fault.Goals as goal

pub returns-then-s-at : goal.returns-then-s-at
returns-then-s-at c =
    let args = c.args in
    mark-short args.text.now args.s.now args.at (omega arith)

pub returns : goal.returns
returns c =
    let args = c.args in
    mark-judged args.text.now args.s.now args.at _ _ (omega arith) c.verdict.ensures c.begins.ensures
