-- `walk::surveys::survey` meets its contract. Assumes nothing.
use mathlib.Core.Path.{sym, ◌∙◌}
use Rattle.metafile.specs.Reading.{rows_of}
use Rattle.walk.proofs.Index.{indexed-none, index-long}
use Rattle.walk.proofs.Serials.{known-none}
use Rattle.walk.proofs.Loops.{seen_more}
use Rattle.walk.proofs.Cursors.{There, there, stops}
use Rattle.walk.proofs.Notes.{values-none, values-counted, place_no, end_no, survey-place, survey-end, survey-stopped, known-everywhere}
use native.Mathlib.Omega.{arith}
use Rattle.walk.proofs.surveys.survey.Goals as goal
use Rattle.walk.proofs.surveys.survey.Goals.{In-loop-c}

-- the row of the cursor
here : (c : In-loop-c) → There c.args.file.now c.loop-c.c
here c = there c.loop-c.invariant.0 c.loop-c-test.true

pub slice_bounds-first-end : goal.slice_bounds-first-end
slice_bounds-first-end c = sym (index-long (indexed-none c.args.file.now 0))

pub first-c-requires : goal.first-c-requires
first-c-requires c = indexed-none c.args.file.now 0

pub loop-c-init : goal.loop-c-init
loop-c-init c =
    let f = c in
    let k = f in
    let file = k.args.file.now in (
      f.first-c.ensures.0,
      rw f.first-c.ensures.1 (values-none 16 (place_no file) k.args.parents.now),
      rw f.first-c.ensures.1 (values-none 16 (end_no file) k.args.parents.now),
      rw f.first-c.ensures.1 (sym (known-none k.args.serial (rows_of file))),
    )

pub slice_bounds-note-end : goal.slice_bounds-note-end
slice_bounds-note-end c =
    let l = c in
    values-counted 16 (place_no l.args.file.now) _ l.args.parents.now l.loop-c.invariant.1

pub slice_bounds-note-end-in-loop-c : goal.slice_bounds-note-end-in-loop-c
slice_bounds-note-end-in-loop-c c =
    let l = c in
    values-counted 16 (end_no l.args.file.now) _ l.args.parents.now l.loop-c.invariant.2

pub overflow_add-c : goal.overflow_add-c
overflow_add-c c = omega (arith, (here (goal.at.overflow_add-c c).In-loop-c).turn.inside)

pub invariant_of-source : goal.invariant_of-source
invariant_of-source c =
    let w = here (goal.at.invariant_of-source c).In-loop-c in record { header_is = w.behind.header_is; whole = w.behind.whole }

pub serial_at-requires : goal.serial_at-requires
serial_at-requires c =
    let w = here (goal.at.serial_at-requires c).In-loop-c in
    record { at_in_bounds = omega (arith, w.turn.inside); l_value = w.turn.layout_is; number_value = w.turn.whole }

pub slice_bounds-next-end : goal.slice_bounds-next-end
slice_bounds-next-end c = sym (index-long c.loop-c.invariant.0.indexed)

pub next-c-requires : goal.next-c-requires
next-c-requires c = record { at = c.loop-c.invariant.0; go_value = c.loop-c-test.true }

pub loop-c-smaller : goal.loop-c-smaller
loop-c-smaller c = omega (arith, (here (goal.at.loop-c-smaller c).In-loop-c).turn.row, c.next-c.ensures.1)

pub loop-c-preserved : goal.loop-c-preserved
loop-c-preserved c =
    let n = c in
    let t = n in
    let l = t in
    let w = here (goal.at.loop-c-preserved c).In-loop-c in
    let file = l.args.file.now in
    let s = n in
    let places = s.note.ensures in
    let ends = s.note-in-loop-c.ensures in (
      n.next-c.ensures.0,
      rw n.next-c.ensures.1 (survey-place file w.begun _ _ w.turn.row _ _ _ places w.behind.place_is l.loop-c.invariant.1),
      rw n.next-c.ensures.1 (survey-end file w.begun _ _ w.turn.row _ _ _ ends w.turn.place l.loop-c.invariant.2),
      rw n.next-c.ensures.1
          (seen_more l.args.serial file w.begun _ _ w.turn.row w.behind.place_is _ _ s.serial_at.ensures s.same_serial-known.ensures _ l.loop-c.invariant.3),
    )

pub returns : goal.returns
returns c =
    let l = c in
    let w = stops l.loop-c.invariant.0 c.loop-c-test.false in
    survey-stopped w l.args.serial l.args.parents.now _ _ _ (l.loop-c.invariant.3 ∙ known-everywhere _ _ _ w.count)
    l.loop-c.invariant.1 l.loop-c.invariant.2
