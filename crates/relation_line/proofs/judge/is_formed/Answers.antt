-- `relation_line::judge::is_formed` meets its contract. Assumes nothing.
use native.Mathlib.Omega.{arith}
use Rattle.relation_line.proofs.Stand.{places, not-formed, by-places}
use Rattle.relation_line.proofs.judge.is_formed.Goals as goal

pub returns-then-line-ne-LINE : goal.returns-then-line-ne-LINE
returns-then-line-ne-LINE c =
    let k = c in
    not-formed k.args.line.now k.requires c.if-line-ne-LINE.true

pub returns : goal.returns
unfolding places
returns c =
    let p = c in
    let t = p in
    let s = t in
    let k = s in
    rw (s.serial_at.ensures, t.is_text.ensures, p.serial_at-2.ensures, c.is_text-2.ensures)
    (by-places k.args.line.now k.requires (omega arith))
