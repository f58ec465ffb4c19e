-- `chunk::known_parts` meets its contract. Assumes nothing.
use Prim.Native.Nat.{◌+◌, ◌≤◌}
use native.Mathlib.Omega.{arith}
use lib.ListN.{length}
use Rattle.chunk.proofs.Layouts.{parts-long, parts-header, parts-contents, parts-inside, parts_are}
use Rattle.chunk.proofs.known_parts.Goals as goal
use Rattle.chunk.proofs.known_parts.Goals.{After-contents_from}

pub slice_bounds-whole_bytes-count : goal.slice_bounds-whole_bytes-count
slice_bounds-whole_bytes-count c = parts-header _ _ _ c.requires.s_value _ c.requires.header_value.0

pub slice_bounds-whole_bytes-start : goal.slice_bounds-whole_bytes-start
slice_bounds-whole_bytes-start c = parts-header _ _ _ c.requires.s_value _ c.requires.header_value.0

pub whole_bytes-bytes-requires : goal.whole_bytes-bytes-requires
whole_bytes-bytes-requires c =
    let k = c in
    parts-contents _ _ _ k.requires.s_value _ k.requires.header_value.0 _ k.requires.header_value.1

-- the chunk ends inside
inside : (c : After-contents_from)
    → c.args.header + c.contents_from.result + c.whole_bytes-bytes.result + length c.args.mark.now + 254 + length c.args.mark.now
    ≤ length c.args.s.now
inside c =
    let k = c in
    parts-inside _ _ _ k.requires.s_value _ k.requires.header_value.0 _ k.requires.header_value.1 _ c.whole_bytes-bytes.ensures _ c.contents_from.ensures

pub overflow_add-contents : goal.overflow_add-contents
overflow_add-contents c = omega (arith, inside c)

pub overflow_add-end : goal.overflow_add-end
overflow_add-end c = omega (arith, inside c)

pub overflow_add-end-2 : goal.overflow_add-end-2
overflow_add-end-2 c = omega (arith, inside c)

pub overflow_add-end-3 : goal.overflow_add-end-3
overflow_add-end-3 c = omega (arith, inside c)

pub overflow_add-end-4 : goal.overflow_add-end-4
overflow_add-end-4 c = omega (arith, inside c)

pub dependencies-requires : goal.dependencies-requires
dependencies-requires c = parts-long _ _ _ c.requires.s_value

pub returns : goal.returns
returns c =
    let f = c in
    let k = f in
    parts_are _ _ _ k.requires.s_value _ k.requires.header_value.0 _ k.requires.header_value.1 _ f.whole_bytes-bytes.ensures _ f.contents_from.ensures _ c.dependencies.ensures
