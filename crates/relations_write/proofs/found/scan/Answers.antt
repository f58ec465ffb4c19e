-- `relations_write::found::scan` meets its contract. Assumes nothing.
use Prim.Native.Nat.{◌<◌}
use native.Mathlib.Omega.{arith}
use lib.ListN.{length}
use Rattle.metafile.specs.Reading.{rows_of}
use Rattle.relations_write.proofs.Finds.{row-scanned, row-passed, rows-scanned}
use Rattle.relations_write.proofs.found.scan.Goals as goal
use Rattle.relations_write.proofs.found.scan.Goals.{In-loop-k}

in_rows : (c : In-loop-k) → c.loop-k.k < length (rows_of c.args.file.now)
in_rows c = omega (arith, c.loop-k-test.true, c.requires.rows_value)

pub loop-k-init : goal.loop-k-init
loop-k-init c = (c.requires.behind, λ l. l)

pub row_at-row-requires : goal.row_at-row-requires
row_at-row-requires c = record { behind = c.loop-k.invariant.0; n_in_bounds = in_rows c }

pub is_relations-requires : goal.is_relations-requires
is_relations-requires c =
    let w = c.row_at-row.ensures in
    omega (arith, w.dependencies-inside, w.end-inside)

pub returns-then-same_bytes : goal.returns-then-same_bytes
returns-then-same_bytes c =
    let s = c in
    let r = s in
    row-scanned _ _ _ _ _ r.row_at-row.ensures _ (in_rows (goal.at.returns-then-same_bytes c).In-loop-k) _ s.same_bytes.ensures c.if-same_bytes.true _ _
    c.is_relations.ensures

pub loop-k-preserved : goal.loop-k-preserved
loop-k-preserved c =
    let s = c in
    let r = s in
    let x = r.args.serial.now in
    let other = row-passed _ _ _ _ _ r.row_at-row.ensures x (in_rows (goal.at.loop-k-preserved c).In-loop-k) _ s.same_bytes.ensures c.if-same_bytes.false in
    (r.row_at-row.ensures.next, λ l. omega (arith, r.loop-k.invariant.1 l, other))

pub returns : goal.returns
returns c =
    let k = c in
    rows-scanned _ _ _ _ (omega (arith, c.loop-k-test.false, k.requires.rows_value)) c.loop-k.invariant.1
