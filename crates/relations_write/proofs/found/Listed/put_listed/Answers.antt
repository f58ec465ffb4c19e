-- `relations_write::found::Listed::put_listed` meets its contract. Assumes nothing.
use Prim.Native.Nat.{ℕ, ◌+◌, ◌*◌, ◌≤◌}
use mathlib.Core.Bool.{Bool, true}
use mathlib.Core.Path.{◌≡◌, sym, ◌∙◌}
use native.Mathlib.Omega.{arith}
use lib.ListN.{length, drop, length-take, length-drop}
use Rattle.relations_write.specs.Found.{listed_in}
use Rattle.relations_write.specs.Counted.{count_below}
use Rattle.relations_write.proofs.Lines.{count-le, count_next, put-room, line-put, chunk-none, listed-put, unlisted-put}
use Rattle.relations_write.proofs.found.Listed.put_listed.Goals as goal
use Rattle.relations_write.proofs.found.Listed.put_listed.Goals.{Start, then-is_listed, else-is_listed}

-- which dependencies are listed
abbrev tested : Start → ℕ → Bool
tested k = listed_in k.args.self.file.now (drop k.args.at k.args.self.file.now)

pub loop-j-init : goal.loop-j-init
loop-j-init c =
    let a = c.args in
    chunk-none a.self.file.now _ _ a.p a.buffer.now

pub is_listed-requires : goal.is_listed-requires
is_listed-requires c = omega (arith, c.requires.n_in_bounds)

-- room for the lines of the dependencies before dependency j
room : (k : Start) (j : ℕ) → j ≤ k.args.n
    → k.args.p + 605 * count_below j (tested k) ≤ length k.args.buffer.now
room k j h = omega (arith, k.requires.file_in_bounds, count-le (tested k) j k.args.n h)

pub put_line-q-requires : goal.put_line-q-requires
put_line-q-requires c =
    let i = c in
    let l = i in
    let k = l in
    let j = l.loop-j.j in
    let inv = l.loop-j.invariant in
    let next = count_next (tested (goal.at.put_line-q-requires c).Start) j true (sym i.is_listed.ensures ∙ c.if-is_listed.true) in record {
      serial_len = simp (length-take, length-drop) (omega (arith, k.requires.serial_in_bounds));
      j_in_bounds = simp (length-take, length-drop) (omega (arith, k.requires.n_in_bounds));
      at_in_bounds = omega (
        arith,
        next,
        inv.ends,
        room (goal.at.put_line-q-requires c).Start (j + 1) (omega arith),
        put-room inv (room (goal.at.put_line-q-requires c).Start j (omega arith)),
      );
    }

pub loop-j-preserved : goal.loop-j-preserved
loop-j-preserved c =
    let l = c in
    let k = l in
    let file = k.args.self.file.now in
    let j = l.loop-j.j in
    let inv = l.loop-j.invariant in
    let is = sym c.is_listed.ensures in
    let more : j + 1 ≤ k.args.n = omega arith in
    let inside : k.args.at + (568 + 344 * j + 344) ≤ length file = omega (arith, k.requires.n_in_bounds) in
    elim c.if-is_listed.branch [
      | then-is_listed t ↦
          rw (t.buffer-is, t.q-is)
          (listed-put file _ _ j inv (is ∙ t.if-is_listed.true) (room (goal.at.loop-j-preserved c).Start (j + 1) more)
          (line-put file _ _ j k.requires.serial_in_bounds inside _ _ t.put_line-q.ensures.0 _ _ t.put_line-q.ensures.1))
      | else-is_listed t ↦ rw (t.buffer-is, t.q-is) (unlisted-put file _ _ j inv (is ∙ t.if-is_listed.false))
    ]

pub shape_of-buffer : goal.shape_of-buffer
shape_of-buffer c =
    put-room c.loop-j.invariant (room (goal.at.shape_of-buffer c).Start _ (omega arith))

pub returns : goal.returns
returns c =
    let k = c in
    let inv = c.loop-j.invariant in
    let all : c.loop-j.j ≡ k.args.n = omega arith in
    rw all at inv
