-- `relations_check::window::fill` meets its contract. Assumes nothing.
use Prim.Native.Nat.{◌+◌, ◌<◌}
use mathlib.Core.Path.{◌≡◌, refl, sym, ◌∙◌}
use native.Mathlib.Omega.{arith}
use lib.ListN.{length}
use Rattle.metafile.specs.Reading.{rows_of}
use Rattle.relations_check.proofs.Windows.{window-none, first_taken, window_more, window-kept}
use Rattle.relations_check.proofs.window.fill.Goals as goal
use Rattle.relations_check.proofs.window.fill.Goals.{Else-more-n, In-loop-n}

pub loop-n-init : goal.loop-n-init
loop-n-init c =
    let k = c in
    let none : k.args.from + 0 ≡ k.args.from = omega arith in
    let b = k.requires.behind in
    (rw none b, window-none _ _ _ b.few k.requires.empty, λ z. k.requires.empty)

pub overflow_sub-rows : goal.overflow_sub-rows
overflow_sub-rows c = omega (arith, c.requires.from_lt_rows)

in_rows : (c : In-loop-n) → c.args.from + c.loop-n.n < length (rows_of c.args.file.now)
in_rows c = let k = c in omega (arith, c.loop-n-test.true, k.requires.rows_value, k.requires.from_lt_rows)

pub overflow_add-from : goal.overflow_add-from
overflow_add-from c = let k = c in omega (arith, c.loop-n-test.true, k.requires.from_lt_rows, k.ranges.rows.fits)

pub row_at-row-requires : goal.row_at-row-requires
row_at-row-requires c = record { behind = c.loop-n.invariant.0; n_in_bounds = in_rows c }

pub add-more-requires : goal.add-more-requires
add-more-requires c =
    let r = c in
    let l = r in
    let s = r.row_at-row.ensures in record { directory = l.loop-n.invariant.1.holds; key_in_bounds = s.serial-inside; start_in_bounds = omega (arith, s.dependencies-inside, s.end-inside); file_len_bound = l.requires.file_len_bound }

pub shape_of-d-then-more-n : goal.shape_of-d-then-more-n
shape_of-d-then-more-n c =
    let l = c in
    c.add-more.ensures.holds.long ∙ sym l.requires.empty.long

pub returns-then-more-n : goal.returns-then-more-n
returns-then-more-n c =
    let k = c in
    let l = k in
    let a = k.add-more.ensures in
    record {
      from_is = refl;
      some = first_taken a l.loop-n.invariant.2 c.if-more-n.true;
      window = window-kept l.loop-n.invariant.1 a c.if-more-n.true;
      behind = l.loop-n.invariant.0;
    }

more : (c : Else-more-n) → c.add-more.result ≡ c.loop-n.n + 1
more c = let a = c.add-more.ensures in omega (arith, a.more.0, a.more.1, c.if-more-n.false)

pub loop-n-smaller : goal.loop-n-smaller
loop-n-smaller c = omega (arith, more c, c.loop-n-test.true)

pub loop-n-preserved : goal.loop-n-preserved
loop-n-preserved c =
    let k = c in
    let r = k in
    let l = r in
    let s = r.row_at-row.ensures in
    let from = l.args.from in
    let n = l.loop-n.n in
    let e = more c in
    let next : from + n + 1 ≡ from + (n + 1) = omega arith in
    let w = window_more l.loop-n.invariant.1 k.add-more.ensures _ _ s refl (in_rows (goal.at.loop-n-preserved c).In-loop-n) e in
    (rw (e, ← next) s.next, rw e w, λ z. absurd (omega (arith, e, z)))

pub shape_of-d : goal.shape_of-d
shape_of-d c = let l = c in l.loop-n.invariant.1.holds.long ∙ sym l.requires.empty.long

pub returns : goal.returns
returns c =
    let l = c in
    record {
      from_is = refl;
      some = omega (arith, c.loop-n-test.false, l.requires.from_lt_rows);
      window = l.loop-n.invariant.1;
      behind = l.loop-n.invariant.0;
    }
