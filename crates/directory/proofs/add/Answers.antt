-- `directory::add` meets its contract. Assumes nothing.
use native.Mathlib.Omega.{arith}
use lib.ListN.{length-set}
use Rattle.index.proofs.Laws.{sized, hash-given}
use Rattle.directory.proofs.Laws.{full, no_slot, added-here}
use Rattle.directory.proofs.add.Goals as goal

pub returns-then-n-eq-ROOM : goal.returns-then-n-eq-ROOM
returns-then-n-eq-ROOM c = full _ _ c.args.key c.args.start c.args.n c.requires.directory c.if-n-eq-ROOM.true

pub returns-in_default : goal.returns-in_default
returns-in_default c = no_slot _ _ c.args.key c.args.start c.args.n c.requires.directory c.hash.result c.in_default.ensures

pub bounds-d-n : goal.bounds-d-n
bounds-d-n c = omega (arith, c.requires.directory.few, c.requires.directory.long, sized)

pub bounds-d-n-2 : goal.bounds-d-n-2
bounds-d-n-2 c = simp length-set (omega (arith, c.requires.directory.few, c.requires.directory.long, sized))

pub returns : goal.returns
returns c =
    let is = c.in-Some.ensures in
    added-here c.args.file.now c.args.d.now c.args.key c.args.start c.args.n c.requires.directory c.requires.key_in_bounds
    (omega (arith, c.requires.directory.few, c.if-n-eq-ROOM.false)) c.in-Some.slot
    (rw (← hash-given c.args.file.now c.args.key c.hash.result c.hash.ensures) is.0) is.1
