-- `blocks::write::put_zeros` meets its contract. Assumes nothing.
use Rattle.std.proofs.Common.{◌≡◌, ◌+◌, ◌-◌, length, take, drop, replicate, ◌∙◌, ap, ℕ, arith, length-take, length-drop}
use Rattle.blocks.proofs.Places.{zeros-put}
use Rattle.blocks.proofs.write.put_zeros.Goals as goal

pub returns : goal.returns
returns c =
    let b = c.args.buffer.now in
    let long : length (take (c.args.at + c.args.n - c.args.at) (drop c.args.at b)) ≡ c.args.n =
    simp (length-take, length-drop) (omega arith)
    in
    zeros-put c.args.at c.args.n b c.fill.new.self c.requires (c.fill.ensures.after (λ y e. e) ∙ ap (λ (k : ℕ). replicate k 0) long)
