-- `chunk::read_parts` meets its contract. Assumes nothing.
use Prim.Native.Nat.{ℕ, ◌+◌, ◌-◌, ◌≤◌}
use mathlib.Core.Bool.{Bool}
use mathlib.Core.List.{List}
use mathlib.Core.Path.{◌≡◌, refl, sym}
use native.Mathlib.Omega.{arith}
use lib.ListN.{length, take, drop}
use Rattle.std.proofs.lemmas.Result.{err_from_is_err_and}
use Rattle.std.specs.declared.result.Result.TheVariants.{Ok}
use Rattle.metafile.specs.Chunk.{is_multi, header_bytes, chunk_header_fault}
use Rattle.lines.proofs.Runs.{refused}
use Rattle.multi.specs.Part.{Part, part_in}
use Rattle.chunk.specs.Layout.{contents_part}
use Rattle.chunk.proofs.Headers.{header-whole}
use Rattle.chunk.proofs.Closings.{closing-fits}
use Rattle.chunk.proofs.Layouts.{layout-header, ContentsRead, layout-contents, contents-inside, layout-closing, layout-whole}
use Rattle.chunk.proofs.read_parts.Goals as goal
use Rattle.chunk.proofs.read_parts.Goals.{In_ok-bytes, In_ok-closing_fault}

-- the contents were read
contents_of : {llc : Bool} {m s : List ℕ} {hb : ℕ} {mc : Bool} {p : Part} → 0 ≡ chunk_header_fault s → hb ≡ header_bytes s → mc ≡ is_multi s
    → p ≡ contents_part mc llc m (take (length s - hb) (drop hb s)) → ContentsRead llc m s hb mc p
contents_of z h b e = record { in-header = sym z; header_is = h; multi-is = b; part-is = e }

contents-read : (c : In_ok-bytes)
    → ContentsRead c.args.llc c.args.mark.now c.args.s.now c.in_ok-head.head.bytes c.is_multi-multichunk.result (part_in (Ok c.in_ok-bytes.bytes))
contents-read c =
    contents_of c.in_ok-head.ensures.fault c.in_ok-head.ensures.bytes-are c.is_multi-multichunk.ensures c.in_ok-bytes.ensures

pub returns-in_err-head : goal.returns-in_err-head
returns-in_err-head c =
    let p = err_from_is_err_and c.from_residual.result c.from_residual.ensures.1 in
    rw (p.1, p.2) (layout-header c.args.llc c.args.mark.now c.args.s.now _ c.in_err-head.ensures.fault (refused _))

pub is_multi-multichunk-requires : goal.is_multi-multichunk-requires
is_multi-multichunk-requires c = (header-whole _ (sym c.in_ok-head.ensures.fault)).long

pub slice_bounds-contents_part-count : goal.slice_bounds-contents_part-count
slice_bounds-contents_part-count c =
    omega (arith, c.in_ok-head.ensures.bytes-are, (header-whole c.args.s.now (sym c.in_ok-head.ensures.fault)).inside)

pub slice_bounds-contents_part-start : goal.slice_bounds-contents_part-start
slice_bounds-contents_part-start c =
    omega (arith, c.in_ok-head.ensures.bytes-are, (header-whole c.args.s.now (sym c.in_ok-head.ensures.fault)).inside)

pub returns-in_err-bytes : goal.returns-in_err-bytes
returns-in_err-bytes c =
    let p = err_from_is_err_and c.from_residual-in_err-bytes.result c.from_residual-in_err-bytes.ensures.1 in
    rw (p.1, p.2)
    (layout-contents (contents_of c.in_ok-head.ensures.fault c.in_ok-head.ensures.bytes-are c.is_multi-multichunk.ensures c.in_err-bytes.ensures) (refused _))

pub overflow_add-contents : goal.overflow_add-contents
overflow_add-contents c =
    omega (arith, contents-inside (contents-read (goal.at.overflow_add-contents c).In_ok-bytes) refl _ c.contents_from.ensures)

pub overflow_add-at : goal.overflow_add-at
overflow_add-at c =
    omega (arith, contents-inside (contents-read (goal.at.overflow_add-at c).In_ok-bytes) refl _ c.contents_from.ensures)

pub closing_fault-requires : goal.closing_fault-requires
closing_fault-requires c =
    contents-inside (contents-read (goal.at.closing_fault-requires c).In_ok-bytes) refl _ c.contents_from.ensures

pub returns-in_err-closing_fault : goal.returns-in_err-closing_fault
returns-in_err-closing_fault c =
    let p = err_from_is_err_and c.from_residual-in_err-closing_fault.result c.from_residual-in_err-closing_fault.ensures.1 in
    rw (p.1, p.2)
    (layout-closing (contents-read (goal.at.returns-in_err-closing_fault c).In_ok-bytes) refl _ c.contents_from.ensures _ c.in_err-closing_fault.ensures (refused _))

-- the closing ends inside too
closing_end : (c : In_ok-closing_fault)
    → c.in_ok-head.head.bytes + c.contents_from.result + c.in_ok-bytes.bytes + length c.args.mark.now + 254 + length c.args.mark.now
    ≤ length c.args.s.now
closing_end c =
    closing-fits c.args.mark.now c.args.s.now _ (sym c.in_ok-closing_fault.ensures)
    (contents-inside (contents-read (goal.at.overflow_add-end c).In_ok-bytes) refl _ c.contents_from.ensures)

pub overflow_add-end : goal.overflow_add-end
overflow_add-end c = omega (arith, closing_end (goal.at.overflow_add-end c).In_ok-closing_fault)

pub overflow_add-end-2 : goal.overflow_add-end-2
overflow_add-end-2 c = omega (arith, closing_end (goal.at.overflow_add-end-2 c).In_ok-closing_fault)

pub overflow_add-end-3 : goal.overflow_add-end-3
overflow_add-end-3 c = omega (arith, closing_end (goal.at.overflow_add-end-3 c).In_ok-closing_fault)

pub returns : goal.returns
returns c =
    layout-whole (contents-read (goal.at.returns c).In_ok-bytes) refl _ c.contents_from.ensures _ c.in_ok-closing_fault.ensures refl _ c.in_ok-head.ensures.count-is
