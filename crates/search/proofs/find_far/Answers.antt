-- `search::find_far` meets its contract. Assumes nothing.
use Rattle.std.proofs.Common.{◌≡◌, ◌∙◌, sym, refl, ◌+◌, ◌*◌, [], ◌∷◌, arith}
use Rattle.laws.proofs.Lists.{find-fits}
use Rattle.search.proofs.Laws.{passed-stretch, passed-rest}
use Rattle.search.proofs.find_far.Goals as goal

pub loop-i-preserved : goal.loop-i-preserved
loop-i-preserved c =
    let end : 64 * (c.loop-i.i + 1) ≡ c.loop-i.at + 64 = omega arith in
    (refl, rw end (passed-stretch c.args.b c.args.s.now c.loop-i.at 64 (omega arith) (sym c.has_byte.ensures ∙ c.if-has_byte.false) c.loop-i.invariant.1))

pub returns : goal.returns
returns c = passed-rest (c.args.b ∷ []) c.args.s.now c.loop-i.at c.find_single.result c.loop-i.invariant.1 c.find_single.ensures

pub overflow_add-result : goal.overflow_add-result
overflow_add-result c = omega (arith, returns c, find-fits (c.args.b ∷ []) c.args.s.now)
