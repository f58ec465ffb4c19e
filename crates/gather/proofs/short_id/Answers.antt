-- `gather::short_id` meets its contract. Assumes nothing.
use Rattle.std.proofs.Common.{ℕ, List, ◌++◌, ap, ◌∙◌, length, drop, replicate}
use Rattle.gather.proofs.Contents.{padded-is}
use Rattle.gather.proofs.short_id.Goals as goal

pub returns : goal.returns
returns c = ap (λ (ys : List ℕ). ys ++ drop (length c.args.id.now) (replicate 10 32)) c.copy_from_slice.ensures.after ∙ padded-is c.args.id.now
