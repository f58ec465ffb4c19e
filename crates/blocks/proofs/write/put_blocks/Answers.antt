-- `blocks::write::put_blocks` meets its contract. The loop's invariant: the blocks before `i` are put. The measure: the blocks
-- left. Assumes nothing.
use Rattle.std.proofs.Common.{◌≡◌, ◌*◌, ◌≤◌, length, sym, arith, length-take}
use Rattle.metafile.specs.Below.{join_below}
use Rattle.laws.proofs.Below.{join_more}
use Rattle.text.proofs.Puts.{put-none, put-length, put-behind, put_is}
use Rattle.blocks.specs.Blocks.{block_count, block_for, packed}
use Rattle.blocks.proofs.Shape.{blocks-long}
use Rattle.blocks.proofs.Places.{data-inside, data_is}
use Rattle.blocks.proofs.write.put_blocks.Goals as goal
use Rattle.blocks.proofs.write.put_blocks.Goals.{In-loop-i}

pub loop-i-init : goal.loop-i-init
unfolding join_below
loop-i-init c = put-none 0 c.args.buffer.now (omega arith)

inside : (c : In-loop-i) → 504 * c.loop-i.i ≤ length c.args.file.now
inside c = data-inside c.args.file.now c.loop-i.i (omega (arith, c.requires.count_value, c.loop-i-test.true))

pub overflow_mul-from : goal.overflow_mul-from
overflow_mul-from c = omega (arith, inside c, c.requires.file_len_bound)

pub overflow_add-from : goal.overflow_add-from
overflow_add-from c = omega (arith, inside c, c.requires.file_len_bound)

pub slice_bounds-put_block-count : goal.slice_bounds-put_block-count
slice_bounds-put_block-count c = omega (arith, inside (goal.at.slice_bounds-put_block-count c).In-loop-i, c.min-end.ensures)

pub slice_bounds-put_block-start : goal.slice_bounds-put_block-start
slice_bounds-put_block-start c = omega (arith, inside (goal.at.slice_bounds-put_block-start c).In-loop-i, c.min-end.ensures)

pub slice_bounds-put_block-end : goal.slice_bounds-put_block-end
slice_bounds-put_block-end c = omega (arith, inside (goal.at.slice_bounds-put_block-end c).In-loop-i, c.min-end.ensures)

pub put_block-at-requires : goal.put_block-at-requires
put_block-at-requires c =
    let e = c in
    let l = e in
    let k = e in
    let p = l.loop-i.invariant in record { v_len_bound = simp length-take (omega (arith, e.min-end.ensures)); at_in_bounds = omega (arith, p.end_is, put-length p, blocks-long k.args.file.now l.loop-i.i, e.loop-i-test.true, k.requires.count_in_bounds) }

pub loop-i-preserved : goal.loop-i-preserved
loop-i-preserved c =
    let b = c in
    let e = b in
    let i = e in
    let l = i in
    let f = i.args.file.now in
    put_is (sym (join_more l.loop-i.i (block_for f))) (put-behind l.loop-i.invariant (put_is (data_is f l.loop-i.i _ e.min-end.ensures) b.put_block-at.ensures))

pub returns : goal.returns
unfolding packed
returns c =
    let l = c in
    let k = l in
    let all : l.loop-i.i ≡ block_count (length k.args.file.now) = omega (arith, c.loop-i-test.false, k.requires.count_value) in
    rw (← all) l.loop-i.invariant.bytes-are

pub shape_of-buffer : goal.shape_of-buffer
shape_of-buffer c = put-length c.loop-i.invariant
