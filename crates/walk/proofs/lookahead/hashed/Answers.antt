-- `walk::lookahead::hashed` meets its contract. Assumes nothing.
use mathlib.Core.Path.{refl, ◌∙◌}
use native.Mathlib.Omega.{arith}
use Rattle.filter.proofs.Laws.{covering-long}
use Rattle.walk.proofs.Ahead.{hashed-none, hashed-far, hashed-more, hashed-all}
use Rattle.walk.proofs.lookahead.hashed.Goals as goal
use Rattle.walk.proofs.lookahead.hashed.Goals.{then-place-file, else-place-file}

pub loop-place-init : goal.loop-place-init
loop-place-init c = (hashed-none c.args.file.now c.args.noted.now c.args.words.now, c.requires)

pub loop-place-preserved : goal.loop-place-preserved
loop-place-preserved c =
    let inv = c.loop-place.invariant in
    elim c.if-place-file.branch [
      | then-place-file w ↦
          rw (w.words-is ∙ w.mark.ensures) (hashed-more _ _ inv.0 c.loop-place-test.true _ refl inv.1, covering-long _ c.loop-place.words ∙ inv.1)
      | else-place-file w ↦
          rw w.words-is (hashed-far _ _ inv.0 c.loop-place-test.true _ refl (λ y. omega (arith, w.if-place-file.false)), inv.1)
    ]

pub returns : goal.returns
returns c = let inv = c.loop-place.invariant in (hashed-all _ c.loop-place.place-index inv.0 (omega (arith, c.loop-place-test.false)), inv.1)
