-- `walk::lookahead::look` meets its contract. Assumes nothing.
use mathlib.Core.Path.{refl}
use native.Mathlib.Omega.{arith}
use Rattle.chunk_laws.proofs.File.{file-few}
use Rattle.walk.proofs.Sources.{whole}
use Rattle.walk.proofs.Ahead.{Stands, stands, looking-first, looking-more}
use Rattle.walk.proofs.lookahead.look.Goals as goal
use Rattle.walk.proofs.lookahead.look.Goals.{Else-l-ne0}

pub loop-row-init : goal.loop-row-init
loop-row-init c =
    (refl, looking-first _ (whole c.args.ahead.from.source) _ _ c.args.words.now c.args.places.now c.args.ahead.from.few c.args.ahead.from.at_is c.requires (omega arith))

here : (c : Else-l-ne0) → Stands c.args.ahead.from.source.file.now c.loop-row.at c.chunk_at-l.result
here c = stands _ _ _ c.loop-row.invariant.1.inside c.chunk_at-l.ensures c.if-l-ne0.false

pub overflow_add-chunks : goal.overflow_add-chunks
overflow_add-chunks c =
    let w = c.loop-row.invariant.1 in
    omega (arith, c.loop-row.invariant.0, w.counted, w.inside, c.args.ahead.from.few, c.args.ahead.small, file-few c.args.ahead.from.source.file.now)

pub overflow_add-at : goal.overflow_add-at
overflow_add-at c = omega (arith, (here (goal.at.overflow_add-at c).Else-l-ne0).inside, c.args.ahead.small)

pub loop-row-preserved : goal.loop-row-preserved
loop-row-preserved c =
    let w = c.loop-row.invariant.1 in (
      refl,
      rw c.loop-row.invariant.0
          (looking-more (whole c.args.ahead.from.source) w _ c.chunk_at-l.ensures c.if-l-ne0.false (omega (arith, w.few, c.if-chunks-eq-ROOM.false))
          (rw c.serial_place-place.ensures.place at c.candidate.ensures)),
    )

pub returns-else-l-ne0 : goal.returns-else-l-ne0
returns-else-l-ne0 c =
    let w = c.loop-row.invariant.1 in
    let more = looking-more (whole c.args.ahead.from.source) w _ c.chunk_at-l.ensures c.if-l-ne0.false (omega (arith, w.few, c.if-chunks-eq-ROOM.false))
    (rw c.serial_place-place.ensures.place at c.candidate.ensures) in
    (rw c.loop-row.invariant.0 more.looked, more.few, more.long)
