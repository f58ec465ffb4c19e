-- `blocks::write::put_block` meets its contract. Assumes nothing.
use Rattle.std.proofs.Common.{◌≡◌, ℕ, ◌+◌, ◌-◌, ◌++◌, length, ap, ◌∙◌, arith, length-append}
use lib.ListN.{length-replicate}
use Rattle.text.specs.Put.{Put}
use Rattle.text.proofs.Puts.{put-length, put-behind, put_is}
use Rattle.blocks.specs.Blocks.{big_endian, block_sum, before_sum, block}
use Rattle.blocks.proofs.BigEndian.{big-long}
use Rattle.blocks.proofs.Places.{put-there}
use Rattle.blocks.proofs.write.put_block.Goals as goal
use Rattle.blocks.proofs.write.put_block.Goals.{After-put_big-b, After-put_bytes-c, After-put_zeros-d}

pub put_big-b-requires : goal.put_big-b-requires
put_big-b-requires c =
    let a = c in
    let k = a in
    let p = a.put_big-a.ensures in
    omega (arith, k.requires.v_len_bound, k.requires.at_in_bounds, put-length p, p.end_is, big-long 4 k.args.i)

two : (c : After-put_big-b) → Put (big_endian 4 c.args.i ++ big_endian 2 (length c.args.v.now)) c.args.at c.args.buffer.now c.put_big-b.result c.put_big-b.new.buffer
two c = put-behind c.put_big-a.ensures c.put_big-b.ensures

two-end : (c : After-put_big-b) → c.put_big-b.result ≡ c.args.at + 6
two-end c =
    let k = c in
    omega (arith, simp length-append at (two c).end_is, big-long 4 k.args.i, big-long 2 (length k.args.v.now))

pub put_bytes-c-requires : goal.put_bytes-c-requires
put_bytes-c-requires c =
    let b = c in
    omega (arith, b.requires.v_len_bound, b.requires.at_in_bounds, put-length (two (goal.at.put_bytes-c-requires c).After-put_big-b), two-end (goal.at.put_bytes-c-requires c).After-put_big-b)

data-put : (c : After-put_bytes-c) → Put c.args.v.now c.put_big-b.result c.put_big-b.new.buffer c.put_bytes-c.result c.put_bytes-c.new.buffer
data-put c =
    let two : Put (big_endian 4 c.args.i ++ big_endian 2 (length c.args.v.now)) c.args.at c.args.buffer.now c.put_big-b.result c.put_big-b.new.buffer = put-behind c.put_big-a.ensures c.put_big-b.ensures in
    let two-end : c.put_big-b.result ≡ c.args.at + 6 = let k = c in
    omega (arith, simp length-append at two.end_is, big-long 4 k.args.i, big-long 2 (length k.args.v.now)) in
    let b = c in
    record {
      end_is = c.put_bytes-c.ensures.0;
      fits = omega (arith, c.put_bytes-c.ensures.0, b.requires.v_len_bound, b.requires.at_in_bounds, put-length two, two-end);
      bytes-are = c.put_bytes-c.ensures.1;
    }

pub put_zeros-d-requires : goal.put_zeros-d-requires
put_zeros-d-requires c =
    let d = c in
    let b = d in
    omega (arith, b.requires.v_len_bound, b.requires.at_in_bounds, put-length (two (goal.at.put_zeros-d-requires c).After-put_big-b), two-end (goal.at.put_zeros-d-requires c).After-put_big-b, put-length (data-put (goal.at.put_zeros-d-requires c).After-put_bytes-c), (data-put (goal.at.put_zeros-d-requires c).After-put_bytes-c).end_is)

four : (c : After-put_zeros-d) → Put (before_sum c.args.i c.args.v.now) c.args.at c.args.buffer.now c.put_zeros-d.result c.put_zeros-d.new.buffer
unfolding before_sum
four c =
    let data-put : Put c.args.v.now c.put_big-b.result c.put_big-b.new.buffer c.put_bytes-c.result c.put_bytes-c.new.buffer = let two : Put (big_endian 4 c.args.i ++ big_endian 2 (length c.args.v.now)) c.args.at c.args.buffer.now c.put_big-b.result c.put_big-b.new.buffer = put-behind c.put_big-a.ensures c.put_big-b.ensures in
    let two-end : c.put_big-b.result ≡ c.args.at + 6 = let k = c in
    omega (arith, simp length-append at two.end_is, big-long 4 k.args.i, big-long 2 (length k.args.v.now)) in
    let b = c in
    record {
      end_is = c.put_bytes-c.ensures.0;
      fits = omega (arith, c.put_bytes-c.ensures.0, b.requires.v_len_bound, b.requires.at_in_bounds, put-length two, two-end);
      bytes-are = c.put_bytes-c.ensures.1;
    } in
    let d = c in
    let b = d in
    put-behind b.put_big-a.ensures (put-behind b.put_big-b.ensures (put-behind data-put c.put_zeros-d.ensures))

pub put_big-requires : goal.put_big-requires
put_big-requires c =
    let z = c in
    let d = z in
    let b = d in
    omega (arith, b.requires.v_len_bound, b.requires.at_in_bounds, two-end (goal.at.put_big-requires c).After-put_big-b, (data-put (goal.at.put_big-requires c).After-put_bytes-c).end_is, z.put_zeros-d.ensures.end_is, length-replicate {A = ℕ} (504 - length b.args.v.now) 0, put-length (four (goal.at.put_big-requires c).After-put_zeros-d))

pub returns : goal.returns
unfolding block
returns c =
    let p = c in
    let s = p in
    let z = s in
    put-behind (four (goal.at.returns c).After-put_zeros-d) (put_is (ap (big_endian 2) (s.block_sum-sum.ensures ∙ ap block_sum (put-there (four (goal.at.returns c).After-put_zeros-d)))) p.put_big.ensures)
