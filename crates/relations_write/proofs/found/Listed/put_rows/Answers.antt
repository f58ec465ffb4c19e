-- `relations_write::found::Listed::put_rows` meets its contract. Assumes nothing.
use Prim.Native.Nat.{ℕ, ◌+◌, ◌*◌, ◌≤◌}
use mathlib.Core.Path.{◌≡◌}
use native.Mathlib.Omega.{arith}
use lib.ListN.{length}
use Rattle.metafile.specs.Reading.{rows_of}
use Rattle.relations_write.proofs.Lines.{put-room, lines_to, row-counted, row_put, rows_none, rows_few, rows_all}
use Rattle.relations_write.proofs.found.Listed.put_rows.Goals as goal
use Rattle.relations_write.proofs.found.Listed.put_rows.Goals.{Start}

-- room for the lines up to row k
room : (s : Start) (k : ℕ) → k ≤ s.args.self.found.rows
    → s.args.from + 605 * lines_to s.args.self.file.now k ≤ length s.args.buffer.now
room s k h =
    let few : k ≤ length (rows_of s.args.self.file.now) = omega (arith, s.args.self.found_in.rows_are) in
    omega (arith, s.requires, rows_few s.args.self.file.now k few)

pub loop-k-init : goal.loop-k-init
loop-k-init c =
    let s = c in
    (s.args.self.found_in.begun, rows_none s.args.self.file.now s.args.from s.args.buffer.now)

pub row_at-row-requires : goal.row_at-row-requires
row_at-row-requires c =
    let s = c in record { behind = s.loop-k.invariant.0 (omega (arith, c.loop-k-test.true)); n_in_bounds = omega (arith, s.args.self.found_in.rows_are) }

pub put_row-p-requires : goal.put_row-p-requires
put_row-p-requires c =
    let r = c in
    let s = r in
    let l = r.loop-k in
    let w = r.row_at-row.ensures in record {
      n_in_bounds = omega (arith, w.dependencies-inside, w.end-inside);
      serial_in_bounds = w.serial-inside;
      n_in_bounds_2 = omega (
        arith,
        l.invariant.1.ends,
        row-counted _ _ _ _ _ w,
        room (goal.at.put_row-p-requires c).Start (l.k + 1) (omega (arith)),
        put-room l.invariant.1 (room (goal.at.put_row-p-requires c).Start l.k (omega arith)),
      );
    }

pub loop-k-preserved : goal.loop-k-preserved
loop-k-preserved c =
    let p = c in
    let r = p in
    let s = r in
    let l = r.loop-k in
    let w = r.row_at-row.ensures in
    let more : l.k + 1 ≤ s.args.self.found.rows = omega (arith) in (
      λ z. w.next,
      row_put _ _ _ _ _ w l.invariant.1 (room (goal.at.loop-k-preserved c).Start (l.k + 1) more) p.put_row-p.ensures,
    )

pub shape_of-buffer : goal.shape_of-buffer
shape_of-buffer c = let l = c.loop-k in put-room l.invariant.1 (room (goal.at.shape_of-buffer c).Start l.k (omega arith))

pub returns : goal.returns
returns c =
    let s = c in
    let l = c.loop-k in
    let all : l.k ≡ length (rows_of s.args.self.file.now) = omega (arith, s.args.self.found_in.rows_are) in
    rw (rows_all s.args.self.file.now _ all) at l.invariant.1.put
