-- `blocks::extract::unpacked_length` meets its contract. Assumes nothing.
use Rattle.std.proofs.Common.{◌≡◌, ◌+◌, ◌-◌, ◌*◌, ◌≤◌, length, ◌∙◌, arith}
use Rattle.blocks.specs.Blocks.{blocks_of, block_of, use_of}
use Rattle.blocks.proofs.Taken.{whole-blocks, count-some, use-few, unpacked-long, use-read}
use Rattle.blocks.proofs.extract.unpacked_length.Goals as goal
use Rattle.blocks.proofs.extract.unpacked_length.Goals.{After-big_value, Start}

whole : (c : Start) → length c.args.x.now ≡ 512 * blocks_of c.args.x.now
whole c = whole-blocks c.args.x.now c.requires.x_value

some : (c : Start) → 1 ≤ blocks_of c.args.x.now
some c = count-some c.args.x.now c.requires.x_value

pub overflow_sub-last : goal.overflow_sub-last
overflow_sub-last c = omega (arith, whole (goal.at.overflow_sub-last c).Start, some (goal.at.overflow_sub-last c).Start)

pub slice_bounds-big_value-end : goal.slice_bounds-big_value-end
slice_bounds-big_value-end c = omega (arith, whole (goal.at.slice_bounds-big_value-end c).Start, some (goal.at.slice_bounds-big_value-end c).Start)

used : (c : After-big_value) → c.big_value.result ≡ use_of (block_of c.args.x.now (blocks_of c.args.x.now - 1))
used c =
    let whole : length c.args.x.now ≡ 512 * blocks_of c.args.x.now = whole-blocks c.args.x.now c.requires.x_value in
    let some : 1 ≤ blocks_of c.args.x.now = count-some c.args.x.now c.requires.x_value in
    let k = c in
    c.big_value.ensures ∙ use-read k.args.x.now k.requires.x_value (blocks_of k.args.x.now - 1) (length k.args.x.now - 512 + 4) (length k.args.x.now - 512 + 6) (omega (arith, whole, some)) (omega (arith, whole, some))

pub overflow_add-result : goal.overflow_add-result
overflow_add-result c =
    let k = c in
    let x = k.args.x.now in
    omega (arith, used c, use-few x k.requires.x_value (blocks_of x - 1) (omega (arith, some (goal.at.overflow_add-result c).Start)), k.requires.x_len_bound)

pub returns : goal.returns
returns c =
    let k = c in
    omega (arith, used c, whole (goal.at.returns c).Start, some (goal.at.returns c).Start, unpacked-long k.args.x.now k.requires.x_value)
