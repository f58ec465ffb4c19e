-- `walk::walks::row_with` meets its contract. Assumes nothing.
use mathlib.Core.Path.{sym, ◌∙◌}
use Rattle.std.specs.declared.result.Result.TheVariants.{Err}
use Rattle.walk.proofs.Index.{index-long}
use Rattle.walk.proofs.Loops.{between_known, between-there, seen-passed, numbered-here, numbered-none}
use Rattle.walk.proofs.Cursors.{There, there, stops}
use native.Mathlib.Omega.{arith}
use Rattle.walk.proofs.walks.row_with.Goals as goal
use Rattle.walk.proofs.walks.row_with.Goals.{In-loop-c, Start}

-- the row at which it is asked
own : (k : Start) → There k.args.file.now k.args.own
own k = there k.requires.at k.requires.go_value

-- the row of the cursor
here : (c : In-loop-c) → There c.args.file.now c.loop-c.c
here c = there c.loop-c.invariant.0 c.loop-c-test.true

pub invariant_of-source : goal.invariant_of-source
invariant_of-source c =
    let w = own (goal.at.invariant_of-source c).Start in record { header_is = w.behind.header_is; whole = w.behind.whole }

pub row_before-requires : goal.row_before-requires
row_before-requires c =
    let w = own (goal.at.row_before-requires c).Start in
    record { m_le_i = c.requires.m_le_row; i_in_bounds = w.behind.few; place_value = c.requires.place_value }

pub returns-in-Ok : goal.returns-in-Ok
returns-in-Ok c =
    let w = own (goal.at.returns-in-Ok c).Start in
    between-there c.args.serial _ 0 _ c.in-Ok.before c.in-Ok.ensures w.begun w.behind.few

pub loop-c-init : goal.loop-c-init
loop-c-init c =
    let w = own (goal.at.loop-c-init c).Start in
    (c.requires.at, sym (between_known c.args.serial _ _ w.behind.few (Err c.in_default.field-0) (sym c.in_default.is ∙ c.row_before.ensures)))

pub serial_at-requires : goal.serial_at-requires
serial_at-requires c =
    let w = here (goal.at.serial_at-requires c).In-loop-c in
    record { at_in_bounds = omega (arith, w.turn.inside); l_value = w.turn.layout_is; number_value = w.turn.whole }

pub shape_of-index-then-same_serial : goal.shape_of-index-then-same_serial
shape_of-index-then-same_serial c = let l = c in index-long l.loop-c.invariant.0.indexed ∙ sym (index-long l.requires.at.indexed)

pub returns-then-same_serial : goal.returns-then-same_serial
returns-then-same_serial c =
    let a = c in
    let w = here (goal.at.returns-then-same_serial c).In-loop-c in
    let l = a in
    numbered-here l.args.serial l.args.file.now w.begun _ _ w.turn.row w.behind.place_is _ _ a.serial_at.ensures c.same_serial.ensures l.loop-c.invariant.1 c.if-same_serial.true

pub next-c-requires : goal.next-c-requires
next-c-requires c = let i = c in record { at = i.loop-c.invariant.0; go_value = i.loop-c-test.true }

pub loop-c-smaller : goal.loop-c-smaller
loop-c-smaller c = let n = c in omega (arith, (here (goal.at.loop-c-smaller c).In-loop-c).turn.row, n.next-c.ensures.1)

pub loop-c-preserved : goal.loop-c-preserved
loop-c-preserved c =
    let n = c in
    let e = n in
    let a = e in
    let w = here (goal.at.loop-c-preserved c).In-loop-c in
    let l = a in (
      n.next-c.ensures.0,
      rw n.next-c.ensures.1
          (seen-passed l.args.serial l.args.file.now w.begun _ _ w.turn.row w.behind.place_is _ _ a.serial_at.ensures e.same_serial.ensures l.loop-c.invariant.1 e.if-same_serial.false),
    )

pub shape_of-index : goal.shape_of-index
shape_of-index c = let l = c in index-long l.loop-c.invariant.0.indexed ∙ sym (index-long l.requires.at.indexed)

pub returns : goal.returns
returns c =
    let l = c in
    numbered-none l.args.serial l.args.file.now _ l.loop-c.invariant.0.few l.loop-c.invariant.1 (omega (arith, (stops l.loop-c.invariant.0 c.loop-c-test.false).count))
