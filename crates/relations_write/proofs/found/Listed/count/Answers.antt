-- `relations_write::found::Listed::count` meets its contract. Assumes nothing.
use Prim.Native.Nat.{◌+◌, ◌*◌, ◌≤◌}
use mathlib.Core.Path.{◌≡◌, refl, ap, ◌∙◌}
use native.Mathlib.Omega.{arith}
use lib.ListN.{length, drop}
use Rattle.metafile.specs.Reading.{rows_of}
use Rattle.metafile.specs.Below.{join_below}
use Rattle.relations_write.proofs.Lines.{lines-few, row-counted, rows_all}
use Rattle.relations_write.proofs.found.Listed.count.Goals as goal
use Rattle.relations_write.proofs.found.Listed.count.Goals.{After-row_count-lines}

pub loop-k-init : goal.loop-k-init
unfolding join_below
loop-k-init c = (c.args.self.found_in.begun, refl, omega arith, omega arith)

pub row_at-row-requires : goal.row_at-row-requires
row_at-row-requires c =
    let s = c in record { behind = s.loop-k.invariant.0 (omega (arith)); n_in_bounds = omega (arith, s.args.self.found_in.rows_are) }

pub row_count-lines-requires : goal.row_count-lines-requires
row_count-lines-requires c =
    let w = c.row_at-row.ensures in omega (arith, w.dependencies-inside, w.end-inside)

-- the lines of one row more
fits : (c : After-row_count-lines)
    → 344 * (c.loop-k.lines + c.row_count-lines.result) ≤ c.row_at-row.result.end
fits c =
    let r = c in
    let a = r.args in
    omega (
      arith,
      r.loop-k.invariant.2,
      r.row_at-row.ensures.dependencies-inside,
      c.row_count-lines.ensures,
      lines-few a.self.file.now (drop r.loop-k.at a.self.file.now) r.row_at-row.result.dependencies,
    )

pub overflow_add-lines : goal.overflow_add-lines
overflow_add-lines c =
    let r = c in
    omega (arith, fits c, r.row_at-row.ensures.end-inside, r.args.self.found_in.small)

pub loop-k-preserved : goal.loop-k-preserved
loop-k-preserved c =
    let r = c in
    let w = r.row_at-row.ensures in
    let inv = r.loop-k.invariant in (
      λ z. w.next,
      omega (arith, inv.1, c.row_count-lines.ensures, row-counted _ _ _ _ _ w),
      fits c,
      omega (arith, fits c, w.end-inside),
    )

pub returns : goal.returns
returns c =
    let s = c in
    let k = s in
    let inv = s.loop-k.invariant in
    let all : s.loop-k.k ≡ length (rows_of k.args.self.file.now) =
    omega (arith, k.args.self.found_in.rows_are) in
    (inv.1 ∙ ap length (rows_all k.args.self.file.now _ all), inv.3)
