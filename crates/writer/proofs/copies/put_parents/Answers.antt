-- `writer::copies::put_parents` meets its contract. Assumes nothing.
use Prim.Native.Nat.{ℕ, ◌+◌, ◌-◌, ◌≤◌}
use mathlib.Core.Path.{◌≡◌, ap, ◌∙◌}
use native.Mathlib.Omega.{arith}
use lib.ListN.{length as size, take, drop, get_or, length-take, length-drop}
use lib.Seq.{length-take-le, take-take}
use Rattle.metafile.specs.Bytes.{part}
use Rattle.writer.proofs.Placed.{take-placed, part-first}
use Rattle.writer.proofs.Rows.{parent_lines, parents-more, parents-done, end_fits, serial-fits, name-fits, parent-lines}
use Rattle.writer.proofs.copies.put_parents.Goals as goal
use Rattle.writer.proofs.copies.put_parents.Goals.{In-loop-i}

-- the row named at this turn: its serial number and its sub-format lie in the file, and the file in the buffer
record Here (c : In-loop-i) : Type 0 where
  behind : c.args.mark + 234 ≤ get_or c.args.ends c.loop-i.i 0
  end : get_or c.args.ends c.loop-i.i 0 ≤ c.args.length
  serial : get_or c.args.ends c.loop-i.i 0 - (c.args.mark + 234) + 38 ≤ c.args.length
  name : get_or c.args.places c.loop-i.i 0 + 46 + 256 ≤ c.args.length
  whole : c.args.length ≤ size c.loop-i.buffer

here : (c : In-loop-i) → Here c
here c =
    let file = take c.args.length c.args.buffer.now in
    let rows = c.requires.located in
    let inside = c.loop-i-test.true in
    let long = length-take-le c.args.length c.args.buffer.now (omega arith) in
    let e = end_fits file c.args.mark c.args.parents.now c.args.places c.args.ends rows c.loop-i.i inside in
    let s = serial-fits file c.args.mark c.args.parents.now c.args.places c.args.ends rows c.loop-i.i inside in
    let n = name-fits file c.args.mark c.args.parents.now c.args.places c.args.ends rows c.loop-i.i inside in
    record { behind = e.0; end = omega arith; serial = omega arith; name = omega arith; whole = omega arith }

-- bytes of the file stand in the buffer as they did
part-here : (c : In-loop-i) (p n : ℕ) → p + n ≤ c.args.length → part p n c.loop-i.buffer ≡ part p n (take c.args.length c.args.buffer.now)
part-here c p n h = part-first p n c.args.length c.loop-i.buffer h (here c).whole ∙ ap (part p n) c.loop-i.invariant.kept

pub overflow_add-from : goal.overflow_add-from
overflow_add-from c = let h = here (goal.at.overflow_add-from c).In-loop-i in omega arith

pub overflow_sub-from : goal.overflow_sub-from
overflow_sub-from c = (here (goal.at.overflow_sub-from c).In-loop-i).behind

pub slice_bounds-serial_from-count : goal.slice_bounds-serial_from-count
slice_bounds-serial_from-count c = let h = here (goal.at.slice_bounds-serial_from-count c).In-loop-i in omega arith

pub slice_bounds-serial_from-start : goal.slice_bounds-serial_from-start
slice_bounds-serial_from-start c = let h = here (goal.at.slice_bounds-serial_from-start c).In-loop-i in omega arith

pub serial_from-serial-requires : goal.serial_from-serial-requires
serial_from-serial-requires c =
    let h = here (goal.at.serial_from-serial-requires c).In-loop-i in simp (length-take, length-drop) (omega arith)

pub overflow_add-name : goal.overflow_add-name
overflow_add-name c = let h = here (goal.at.overflow_add-name c).In-loop-i in omega arith

pub put_parent-p-requires : goal.put_parent-p-requires
put_parent-p-requires c =
    let h = here (goal.at.put_parent-p-requires c).In-loop-i in
    let inside = c.loop-i-test.true in
    (omega arith, omega arith)

pub loop-i-preserved : goal.loop-i-preserved
unfolding parent_lines
loop-i-preserved c =
    let h = here (goal.at.loop-i-preserved c).In-loop-i in
    let at = part-here (goal.at.loop-i-preserved c).In-loop-i in
    let inside = c.loop-i-test.true in
    let room = c.requires.length_le_at in
    let put = c.put_parent-p.ensures in
    let file = take c.args.length c.args.buffer.now in
    let from : ℕ = get_or c.args.ends c.loop-i.i 0 - (c.args.mark + 234) in
    let name : ℕ = get_or c.args.places c.loop-i.i 0 + 46 in
    let rest : 38 ≤ size c.loop-i.buffer - from = omega arith in
    let serial-is : c.serial_from-serial.result ≡ part from 38 file =
    c.serial_from-serial.ensures ∙ take-take 38 (size c.loop-i.buffer - from) (drop from c.loop-i.buffer) rest ∙ at from 38 (omega arith) in
    let name-is : part name 256 c.loop-i.buffer ≡ part name 256 file = at name 256 (omega arith) in
    let lines-are = parent-lines file c.args.mark c.args.parents.now c.args.places c.args.ends c.requires.located c.loop-i.i inside in
    record {
      place = omega arith;
      long = omega (arith, c.put_parent-p.auto.buffer);
      kept = ap (take c.args.length) put.1 ∙ take-placed c.args.length c.loop-i.p _ c.loop-i.buffer (omega arith) (omega arith) ∙ c.loop-i.invariant.kept;
      left =
          parents-more file c.args.parents.now c.requires.located.below c.loop-i.i inside c.loop-i.p c.put_parent-p.result c.loop-i.buffer c.put_parent-p.new.buffer _
          c.loop-i.invariant.left (omega arith) put.0 (put.1 ∙ rw (serial-is, name-is, lines-are));
    }

pub returns : goal.returns
unfolding parent_lines
returns c =
    let ended = c.loop-i-test.false in
    let i = c.loop-i.i in (
      omega arith,
      parents-done (take c.args.length c.args.buffer.now) c.args.parents.now i c.loop-i.p c.loop-i.buffer _ (omega arith) c.loop-i.invariant.left,
    )
