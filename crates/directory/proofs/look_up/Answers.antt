-- `directory::look_up` meets its contract. Assumes nothing.
use mathlib.Core.Path.{ap, ◌∙◌}
use Rattle.directory.specs.Directory.{slot_for}
use Rattle.directory.proofs.Laws.{ahead-first, ahead-empty, ahead-found, ahead-next, ahead-end}
use Rattle.directory.proofs.look_up.Goals as goal

pub loop-slot-init : goal.loop-slot-init
loop-slot-init c = ahead-first c.requires.directory c.slot_for-from.result (c.slot_for-from.ensures.0 ∙ ap slot_for c.hash.ensures)

pub returns-then-e-eq0 : goal.returns-then-e-eq0
returns-then-e-eq0 c = ahead-empty _ c.loop-slot.slot-index c.loop-slot.invariant c.loop-slot-test.true c.if-e-eq0.true

pub returns-then-is_entry : goal.returns-then-is_entry
returns-then-is_entry c =
    ahead-found _ c.loop-slot.slot-index c.loop-slot.invariant c.loop-slot-test.true c.if-e-eq0.false _ c.is_entry.ensures c.if-is_entry.true

pub loop-slot-preserved : goal.loop-slot-preserved
loop-slot-preserved c =
    ahead-next _ c.loop-slot.slot-index c.loop-slot.invariant c.loop-slot-test.true c.if-e-eq0.false _ c.is_entry.ensures c.if-is_entry.false

pub returns : goal.returns
returns c = ahead-end _ c.loop-slot.slot-index c.loop-slot.invariant c.loop-slot-test.false
