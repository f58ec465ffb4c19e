-- `lines::write::values_formed` meets its contract. The loop's invariant: all values are formed if those left are, from the
-- place reached. Assumes nothing.
use Prim.Native.Nat.{ℕ, ◌+◌, ◌-◌}
use mathlib.Core.Path.{◌≡◌, refl, sym, ◌∙◌}
use lib.ListN.{drop}
use Rattle.metafile.specs.Lines.{width}
use Rattle.table.specs.Codes.{line_no}
use Rattle.lines.proofs.Runs.{value-fault, value-wide, refused}
use Rattle.lines.proofs.Puts.{value_room, value-next, formed-bad, formed-good, formed-end}
use native.Mathlib.Omega.{arith}
use Rattle.lines.proofs.write.values_formed.Goals as goal

pub loop-i-init : goal.loop-i-init
loop-i-init c =
    let all : c.args.first + c.args.n - c.args.first ≡ c.args.n = omega arith in
    rw all (record { wide = omega arith; left = refl })

pub read_field-requires : goal.read_field-requires
read_field-requires c =
    let loop = c.loop-i in
    omega (arith, value_room c.args.values.now loop.v loop.i (c.args.first + c.args.n) (omega arith) (omega arith) loop.invariant.wide)

pub returns-in_default : goal.returns-in_default
returns-in_default c =
    let args = c.args in
    let loop = c.loop-i in
    let end : ℕ = args.first + args.n in
    formed-bad args.values.now loop.v loop.i end (omega arith) (omega arith) loop.invariant.wide _ (value-fault loop.i loop.v args.values.now _ c.in_default.ensures) (refused _) ∙ sym loop.invariant.left

pub loop-i-preserved : goal.loop-i-preserved
loop-i-preserved c =
    let args = c.args in
    let loop = c.loop-i in
    let end : ℕ = args.first + args.n in
    let next : c.in-Ok.next ≡ loop.v + width (line_no loop.i).kind = omega (arith, c.in-Ok.ensures.behind, value-wide loop.i) in
    record {
      wide = value-next args.values.now loop.v loop.i end (omega arith) (omega arith) loop.invariant.wide _ next;
      left = loop.invariant.left ∙ formed-good args.values.now loop.v loop.i end (omega arith) (omega arith) loop.invariant.wide _ (value-fault loop.i loop.v args.values.now _ c.in-Ok.ensures) _ refl next;
    }

pub returns : goal.returns
returns c =
    let loop = c.loop-i in
    formed-end (drop loop.v c.args.values.now) loop.i (c.args.first + c.args.n) (omega arith) ∙ sym loop.invariant.left
