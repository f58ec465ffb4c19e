-- `lines::write::put_number` meets its contract. Assumes nothing.
use mathlib.Core.Path.{refl, sym, ◌∙◌}
use native.Mathlib.Omega.{arith}
use Rattle.lines.proofs.Puts.{digit-put, digits-none}
use Rattle.lines.proofs.write.put_number.Goals as goal

pub loop-k-preserved : goal.loop-k-preserved
loop-k-preserved c =
    let loop = c.loop-k in
    loop.invariant ∙ digit-put c.args.at loop.k loop.rest loop.buffer (omega arith) (omega arith)

pub returns : goal.returns
returns c = (refl, sym (c.loop-k.invariant ∙ digits-none c.args.at c.loop-k.k c.loop-k.rest c.loop-k.buffer (omega arith)))
