-- `relations_write::found::enter_rows` meets its contract. The loop's invariant: the n entries are the relations rows before row
-- k, which begins at `at`. Assumes nothing.
use Prim.Native.Nat.{◌≤◌}
use mathlib.Core.Path.{◌≡◌, sym, ap, ◌∙◌}
use native.Mathlib.Omega.{arith}
use lib.ListN.{length}
use Rattle.metafile.specs.Calls.{chunk_of}
use Rattle.metafile.specs.Relations.{is_relations}
use Rattle.relations_write.proofs.Finds.{row-chunk, held_none, held-other, held_kept, held_more}
use Rattle.relations_write.proofs.found.enter_rows.Goals as goal
use Rattle.relations_write.proofs.found.enter_rows.Goals.{After-is_relations, then-is_relations+else-more-n, else-is_relations}

pub loop-k-init : goal.loop-k-init
loop-k-init c =
    let k = c in
    (k.requires.behind, omega arith, held_none k.args.file.now k.args.d.now k.requires.empty)

pub row_at-row-requires : goal.row_at-row-requires
row_at-row-requires c = record { behind = c.loop-k.invariant.0 (omega (arith, c.loop-k-test.true)); n_in_bounds = omega (arith, c.loop-k-test.true, c.requires.rows_value) }

pub is_relations-requires : goal.is_relations-requires
is_relations-requires c =
    let w = c.row_at-row.ensures in
    omega (arith, w.dependencies-inside, w.end-inside)

-- row k is a relations row or not
row_is : (c : After-is_relations)
    → c.is_relations.result
    ≡ is_relations (chunk_of c.args.file.now c.loop-k.k)
row_is c = c.is_relations.ensures ∙ ap is_relations (row-chunk _ _ _ _ _ c.row_at-row.ensures)

pub add-more-requires : goal.add-more-requires
add-more-requires c =
    let r = c in
    let w = r.row_at-row.ensures in
    let inside : r.loop-k.at ≤ length r.args.file.now =
    omega (arith, w.dependencies-inside, w.end-inside) in record { directory = r.loop-k.invariant.2.holds; key_in_bounds = w.serial-inside; start_in_bounds = inside; file_len_bound = r.requires.file_len_bound }

pub shape_of-d-then-more-n : goal.shape_of-d-then-more-n
shape_of-d-then-more-n c =
    let a = c in
    let k = a in
    a.add-more.ensures.holds.long ∙ sym k.requires.empty.long

pub returns-then-more-n : goal.returns-then-more-n
returns-then-more-n c =
    let a = c in
    let l = a in
    let k = l in
    let inv = l.loop-k.invariant in
    let kept = held_kept _ _ _ _ inv.2 _ _ _ _ a.add-more.ensures c.if-more-n.true in
    record {
      rows_are = k.requires.rows_value;
      begun = k.requires.behind;
      behind = inv.0;
      few = inv.1;
      holds = kept.holds;
      held = ∣ kept ∣₁;
      small = k.requires.file_len_bound;
    }

pub loop-k-preserved : goal.loop-k-preserved
loop-k-preserved c =
    let i = c in
    let l = i in
    let w = i.row_at-row.ensures in
    let inv = l.loop-k.invariant in
    let is = sym (row_is (goal.at.loop-k-preserved c).After-is_relations) in (
      λ z. w.next,
      omega (arith, l.loop-k-test.true),
      elim c.if-is_relations.branch [
        | then-is_relations+else-more-n t ↦
            rw (t.d-is, t.n-is)
            (held_more _ _ _ _ inv.2 _ _ _ _ t.add-more.ensures t.if-more-n.false w.serial-is (is ∙ t.if-is_relations.true))
        | else-is_relations t ↦ rw (t.d-is, t.n-is) (held-other _ _ _ _ inv.2 (is ∙ t.if-is_relations.false))
      ],
    )

pub shape_of-d : goal.shape_of-d
shape_of-d c =
    let k = c in
    c.loop-k.invariant.2.holds.long ∙ sym k.requires.empty.long

pub returns : goal.returns
returns c =
    let k = c in
    let inv = c.loop-k.invariant in
    record {
      rows_are = k.requires.rows_value;
      begun = k.requires.behind;
      behind = inv.0;
      few = inv.1;
      holds = inv.2.holds;
      held = ∣ inv.2 ∣₁;
      small = k.requires.file_len_bound;
    }

pub overflow_add-k : goal.overflow_add-k
overflow_add-k c = omega (arith, c.loop-k-test.true)

pub loop-k-smaller : goal.loop-k-smaller
loop-k-smaller c = omega (arith, c.loop-k-test.true)
