-- `gather::gather_from` meets its contract. Assumes nothing.
use mathlib.Core.Path.{sym, ◌∙◌}
use native.Mathlib.Omega.{arith}
use Rattle.gather.proofs.Answers.{from-14, from-18, from-joined}
use Rattle.gather.proofs.gather_from.Goals as goal

pub returns-then-not-is_declared : goal.returns-then-not-is_declared
returns-then-not-is_declared c = from-14 _ _ _ (sym c.is_declared.ensures ∙ c.if-not-is_declared.true)

pub returns-then-buffer-n : goal.returns-then-buffer-n
returns-then-buffer-n c =
    from-18 _ _ _ (sym c.is_declared.ensures ∙ c.if-not-is_declared.false) (omega (arith, c.if-buffer-n.true, c.joined_length-n.ensures))

pub returns : goal.returns
returns c =
    from-joined _ _ _ (sym c.is_declared.ensures ∙ c.if-not-is_declared.false) _ _ c.joined_length-n.ensures c.if-buffer-n.false c.put_joined.ensures.buffer_after
