-- `text::decimal_length` meets its contract. The loop's invariant: the digits counted and those of the number left are one more
-- than the digits. The measure: the number left. Assumes nothing.
use mathlib.Core.Path.{ap, ◌∙◌}
use native.Mathlib.Omega.{arith}
use lib.ListN.{length, length-append}
use Rattle.laws.proofs.Digits.{length-digits_of}
use Rattle.text.proofs.Decimals.{decimal-small, decimal-more, decimal-few}
use Rattle.text.proofs.decimal_length.Goals as goal

pub overflow_add-n : goal.overflow_add-n
overflow_add-n c = omega (arith, decimal-few c.args.x)

pub loop-rest-preserved : goal.loop-rest-preserved
loop-rest-preserved c =
    let rest = c.loop-rest.rest in
    omega (arith, simp length-append at (ap length (decimal-more rest (omega arith) (omega arith))))

pub returns : goal.returns
returns c =
    let rest = c.loop-rest.rest in
    omega (arith, ap length (decimal-small rest (omega arith)) ∙ length-digits_of 1 rest)
