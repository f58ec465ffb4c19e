-- `blocks::extract::put_file` meets its contract. The loop's invariant: the data of the blocks before `i` are put. The measure:
-- the blocks left. Assumes nothing.
use Rattle.std.proofs.Common.{◌≡◌, ◌+◌, ◌-◌, ◌*◌, ◌/◌, ◌<◌, ◌≤◌, length, take, drop, sym, refl, ap, ◌∙◌, arith, length-take}
use Rattle.metafile.specs.Below.{join_below}
use Rattle.laws.proofs.Below.{join_more}
use Rattle.text.specs.Put.{Put}
use Rattle.text.proofs.Puts.{put-none, put-length, put-behind, put_is}
use Rattle.blocks.specs.Blocks.{blocks_of, block_of, use_of, data_of, unpacked}
use Rattle.blocks.proofs.Taken.{data-room, whole-blocks, use-few, use-read, data-read}
use Rattle.blocks.proofs.extract.put_file.Goals as goal
use Rattle.blocks.proofs.extract.put_file.Goals.{After-big_value-used, In-loop-i, Start}

pub loop-i-init : goal.loop-i-init
unfolding join_below
loop-i-init c = put-none 0 c.args.buffer.now (omega arith)

-- as many blocks as the code counts
counted : (c : Start) → length c.args.x.now / 512 ≡ blocks_of c.args.x.now
counted c = omega (arith, whole-blocks c.args.x.now c.requires.x_value)

less : (c : In-loop-i) → c.loop-i.i < blocks_of c.args.x.now
less c =
    let counted : length c.args.x.now / 512 ≡ blocks_of c.args.x.now = omega (arith, whole-blocks c.args.x.now c.requires.x_value) in
    omega (arith, counted, c.loop-i-test.true)

inside : (c : In-loop-i) → 512 * c.loop-i.i + 512 ≤ length c.args.x.now
inside c = omega (arith, less c, whole-blocks c.args.x.now c.requires.x_value)

fits : (c : In-loop-i) → 512 * c.loop-i.i + 512 ≤ 1073741824
fits c = omega (arith, inside c, c.requires.x_len_bound)

-- the use of a turn's block
used : (c : After-big_value-used) → c.big_value-used.result ≡ use_of (block_of c.args.x.now c.loop-i.i)
used c =
    let i = c in
    let k = i in
    c.big_value-used.ensures ∙ use-read k.args.x.now k.requires.x_value i.loop-i.i (512 * i.loop-i.i + 6 - 2) (512 * i.loop-i.i + 6) (omega arith) (omega arith)

few : (c : After-big_value-used) → c.big_value-used.result ≤ 504
few c =
    let less : c.loop-i.i < blocks_of c.args.x.now = let counted : length c.args.x.now / 512 ≡ blocks_of c.args.x.now = omega (arith, whole-blocks c.args.x.now c.requires.x_value) in
    omega (arith, counted, c.loop-i-test.true) in
    let i = c in
    omega (arith, used c, use-few i.args.x.now i.requires.x_value _ less)

-- and its data
turn : (c : After-big_value-used)
    → take (512 * c.loop-i.i + 6 + c.big_value-used.result - (512 * c.loop-i.i + 6)) (drop (512 * c.loop-i.i + 6) c.args.x.now)
    ≡ data_of c.args.x.now c.loop-i.i
turn c =
    let less : c.loop-i.i < blocks_of c.args.x.now = let counted : length c.args.x.now / 512 ≡ blocks_of c.args.x.now = omega (arith, whole-blocks c.args.x.now c.requires.x_value) in
    omega (arith, counted, c.loop-i-test.true) in
    let i = c in
    let k = i in
    data-read k.args.x.now k.requires.x_value i.loop-i.i (512 * i.loop-i.i + 6) c.big_value-used.result less refl (used c)

room : (c : After-big_value-used) → c.loop-i.p + length (data_of c.args.x.now c.loop-i.i) ≤ length c.loop-i.buffer
room c =
    let less : c.loop-i.i < blocks_of c.args.x.now = let counted : length c.args.x.now / 512 ≡ blocks_of c.args.x.now = omega (arith, whole-blocks c.args.x.now c.requires.x_value) in
    omega (arith, counted, c.loop-i-test.true) in
    let i = c in
    let k = i in
    let p = i.loop-i.invariant in
    omega (arith, p.end_is, put-length p, data-room k.args.x.now i.loop-i.i less, k.requires.x_in_bounds)

pub put_bytes-p-requires : goal.put_bytes-p-requires
put_bytes-p-requires c =
    let b = c in
    rw (turn (goal.at.put_bytes-p-requires c).After-big_value-used) (room (goal.at.put_bytes-p-requires c).After-big_value-used)

pub loop-i-preserved : goal.loop-i-preserved
loop-i-preserved c =
    let q = c in
    let b = q in
    let i = b in
    let l = i in
    let x = i.args.x.now in
    let put : Put (data_of x l.loop-i.i) l.loop-i.p l.loop-i.buffer q.put_bytes-p.result q.put_bytes-p.new.buffer =
    rw (← turn (goal.at.loop-i-preserved c).After-big_value-used)
    record {
      end_is = q.put_bytes-p.ensures.0;
      fits = omega (arith, q.put_bytes-p.ensures.0, ap length (turn (goal.at.loop-i-preserved c).After-big_value-used), room (goal.at.loop-i-preserved c).After-big_value-used);
      bytes-are = q.put_bytes-p.ensures.1;
    }
    in
    put_is (sym (join_more l.loop-i.i (data_of x))) (put-behind l.loop-i.invariant put)

pub returns : goal.returns
unfolding unpacked
returns c =
    let l = c in
    let k = l in
    let all : l.loop-i.i ≡ blocks_of k.args.x.now = omega (arith, c.loop-i-test.false, counted (goal.at.returns c).Start) in
    rw (← all) l.loop-i.invariant.bytes-are

pub overflow_mul-from : goal.overflow_mul-from
overflow_mul-from c = omega (arith, fits c)

pub overflow_add-from : goal.overflow_add-from
overflow_add-from c = omega (arith, fits c)

pub overflow_sub-from : goal.overflow_sub-from
overflow_sub-from c = omega arith

pub slice_bounds-big_value-count : goal.slice_bounds-big_value-count
slice_bounds-big_value-count c = omega arith

pub slice_bounds-big_value-start : goal.slice_bounds-big_value-start
slice_bounds-big_value-start c = omega arith

pub slice_bounds-big_value-end : goal.slice_bounds-big_value-end
slice_bounds-big_value-end c = omega (arith, inside c)

pub big_value-used-requires : goal.big_value-used-requires
big_value-used-requires c = simp length-take (omega arith)

pub overflow_add-from-in-loop-i : goal.overflow_add-from-in-loop-i
overflow_add-from-in-loop-i c = omega (arith, fits (goal.at.overflow_add-from-in-loop-i c).In-loop-i, few (goal.at.overflow_add-from-in-loop-i c).After-big_value-used)

pub slice_bounds-put_bytes-count : goal.slice_bounds-put_bytes-count
slice_bounds-put_bytes-count c = omega arith

pub slice_bounds-put_bytes-start : goal.slice_bounds-put_bytes-start
slice_bounds-put_bytes-start c = omega arith

pub slice_bounds-put_bytes-end : goal.slice_bounds-put_bytes-end
slice_bounds-put_bytes-end c = omega (arith, inside (goal.at.slice_bounds-put_bytes-end c).In-loop-i, few (goal.at.slice_bounds-put_bytes-end c).After-big_value-used)

pub loop-i-smaller : goal.loop-i-smaller
loop-i-smaller c = omega arith

pub shape_of-buffer : goal.shape_of-buffer
shape_of-buffer c = put-length c.loop-i.invariant
