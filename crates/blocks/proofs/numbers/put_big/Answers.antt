-- `blocks::numbers::put_big` meets its contract. Assumes nothing.
use Rattle.std.proofs.Common.{sym, refl, ◌∙◌, arith}
use Rattle.blocks.proofs.BigEndian.{big-long, big-put, big-none}
use Rattle.blocks.proofs.numbers.put_big.Goals as goal

pub loop-k-init : goal.loop-k-init
loop-k-init c = refl

pub loop-k-preserved : goal.loop-k-preserved
loop-k-preserved c =
    c.loop-k.invariant ∙ big-put c.args.at c.loop-k.k c.loop-k.rest c.loop-k.buffer (omega arith) (omega arith)

pub returns : goal.returns
returns c =
    let long = big-long c.args.n c.args.x in
    record {
      end_is = omega arith;
      fits = omega arith;
      bytes-are = sym (c.loop-k.invariant ∙ big-none c.args.at c.loop-k.k c.loop-k.rest c.loop-k.buffer (omega arith));
    }
