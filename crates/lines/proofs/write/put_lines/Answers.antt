-- `lines::write::put_lines` meets its contract. The loop's invariant: all lines are put once those left are put at the place
-- reached. Assumes nothing.
use Prim.Native.Nat.{ℕ, ◌+◌, ◌-◌}
use mathlib.Core.Path.{◌≡◌, refl, sym, ◌∙◌}
use lib.ListN.{drop}
use Rattle.lines.proofs.Puts.{value_room, value-next, size-next, put_next, put-end, size-end}
use native.Mathlib.Omega.{arith}
use Rattle.lines.proofs.write.put_lines.Goals as goal

pub loop-i-init : goal.loop-i-init
loop-i-init c =
    let all : c.args.first + c.args.n - c.args.first ≡ c.args.n = omega arith in
    rw all (record { wide = omega arith; fits = refl; left = refl })

pub put_line-p-requires : goal.put_line-p-requires
put_line-p-requires c =
    let args = c.args in
    let loop = c.loop-i in
    let end : ℕ = args.first + args.n in
    (omega arith, value_room args.values.now loop.v loop.i end (omega arith) (omega arith) loop.invariant.wide, omega (arith, size-next args.values.now loop.buffer loop.p loop.v loop.i end (omega arith) (omega arith) loop.invariant.wide (omega arith)))

pub overflow_add-v : goal.overflow_add-v
overflow_add-v c =
    let args = c.args in
    let loop = c.loop-i in
    let end : ℕ = args.first + args.n in
    omega (arith, value_room args.values.now loop.v loop.i end (omega arith) (omega arith) loop.invariant.wide, c.value_bytes-v.ensures)

pub loop-i-preserved : goal.loop-i-preserved
loop-i-preserved c =
    let args = c.args in
    let loop = c.loop-i in
    let end : ℕ = args.first + args.n in
    let line = c.put_line-p in
    let others = size-next args.values.now loop.buffer loop.p loop.v loop.i end (omega arith) (omega arith) loop.invariant.wide (omega arith) in
    record {
      wide = value-next args.values.now loop.v loop.i end (omega arith) (omega arith) loop.invariant.wide (loop.v + c.value_bytes-v.result) (omega (arith, c.value_bytes-v.ensures));
      fits = omega (arith, line.ensures.0);
      left = loop.invariant.left ∙ put_next args.values.now loop.buffer loop.p loop.v loop.i end (omega arith) (omega arith) loop.invariant.wide (omega arith) line.result c.value_bytes-v.result line.new.buffer line.ensures.0 c.value_bytes-v.ensures line.ensures.1;
    }

pub returns : goal.returns
returns c =
    let args = c.args in
    let loop = c.loop-i in
    let end : ℕ = args.first + args.n in
    (omega (arith, size-end loop.i end (omega arith)), sym (loop.invariant.left ∙ put-end (drop loop.v args.values.now) loop.buffer loop.p loop.i end (omega arith)))
