-- `chunk::header::numbers_fault` meets its contract. Assumes nothing.
use mathlib.Core.Path.{sym, ◌∙◌}
use native.Mathlib.Omega.{arith}
use Rattle.chunk.proofs.Headers.{head-long, dependencies-below, lengths-wrong, lengths_short, lengths-exact, lengths-plain, lengths-multi}
use Rattle.chunk.proofs.header.numbers_fault.Goals as goal

pub overflow_mul-n : goal.overflow_mul-n
overflow_mul-n c = omega (arith, c.requires.numbers.n-is, dependencies-below c.args.s.now c.requires.lines)

pub overflow_add-n : goal.overflow_add-n
overflow_add-n c = omega (arith, c.requires.numbers.n-is, dependencies-below c.args.s.now c.requires.lines)

pub returns-then-announced-n : goal.returns-then-announced-n
returns-then-announced-n c = lengths-wrong c.requires.numbers c.if-announced-n.true

pub overflow_add-least : goal.overflow_add-least
overflow_add-least c =
    let b = c in
    omega (arith, b.requires.numbers.n-is, dependencies-below b.args.s.now b.requires.lines)

pub returns-then-header-least : goal.returns-then-header-least
returns-then-header-least c = lengths_short c.requires.numbers c.if-announced-n.false c.if-header-least.true

pub returns-then-header-least-2 : goal.returns-then-header-least-2
returns-then-header-least-2 c = lengths-exact c.requires.numbers c.if-announced-n.false c.if-header-least.false c.if-header-least-2.true

pub is_multi-requires : goal.is_multi-requires
is_multi-requires c =
    let b = c in
    head-long b.args.s.now b.requires.lines

pub returns-then-is_multi : goal.returns-then-is_multi
returns-then-is_multi c =
    let d = c in
    lengths-multi d.requires.numbers d.if-announced-n.false d.if-header-least.false d.if-header-least-2.false (sym c.is_multi.ensures ∙ c.if-is_multi.true)

pub returns : goal.returns
returns c =
    let d = c in
    lengths-plain d.requires.numbers d.if-announced-n.false d.if-header-least.false (sym c.is_multi.ensures ∙ c.if-is_multi.false)
