-- `ancestors::lists::put_rows` meets its contract. Assumes nothing.
use Rattle.std.proofs.Common.{◌<◌, length, sym, ◌∙◌, arith, rules}
use Rattle.metafile.specs.Answers.{placed}
use Rattle.ancestors.proofs.Marked.{listed-none, listed-room, listed-more, listed-out, put_in}
use Rattle.ancestors.proofs.lists.put_rows.Goals as goal
use Rattle.ancestors.proofs.lists.put_rows.Goals.{Then-is_listed, then-is_listed, else-is_listed}

pub loop-i-init : goal.loop-i-init
unfolding placed
loop-i-init c = rw (listed-none c.args.marks.now c.args.row) (search rules)

-- the row is in the list
put : (c : Then-is_listed) → c.loop-i.used < length c.loop-i.list
put c =
    omega (
      arith,
      c.loop-i.invariant.0,
      c.loop-i.auto.list,
      listed-room c.args.marks.now c.args.row c.loop-i.i _ c.loop-i-test.true (sym c.is_listed.ensures ∙ c.if-is_listed.true),
    )

pub offset_bounds-list-used : goal.offset_bounds-list-used
offset_bounds-list-used c = omega (arith, put (goal.at.offset_bounds-list-used c).Then-is_listed, c.well_formed)

pub bounds-list-used : goal.bounds-list-used
bounds-list-used c = put (goal.at.bounds-list-used c).Then-is_listed

pub overflow_add-used : goal.overflow_add-used
overflow_add-used c = omega (arith, put (goal.at.overflow_add-used c).Then-is_listed, c.well_formed)

pub loop-i-preserved : goal.loop-i-preserved
loop-i-preserved c =
    let w = c.loop-i.invariant in
    elim c.if-is_listed.branch [
      | then-is_listed v ↦
          let e = sym c.is_listed.ensures ∙ v.if-is_listed.true in
          rw (v.used-is, v.list-is) (
            omega (arith, w.0, listed-more c.args.marks.now c.args.row c.loop-i.i e),
            rw w.1 (put_in c.args.marks.now c.args.row _ _ _ _ c.loop-i-test.true e c.requires w.0),
          )
      | else-is_listed v ↦
          let e = sym c.is_listed.ensures ∙ v.if-is_listed.false in
          rw (v.used-is, v.list-is, listed-out c.args.marks.now c.args.row c.loop-i.i e) w
    ]
