-- `multi::gather::Under::new` meets its contract. Assumes nothing.
use Rattle.multi.proofs.MiniWalk.{whole-begins, under-begins}
use Rattle.multi.proofs.gather.Under.new.Goals as goal

pub invariant_of-result : goal.invariant_of-result
invariant_of-result c = rw c.minis_place.ensures (record { whole = whole-begins c.args.r.now c.requires })

pub returns : goal.returns
returns c = rw c.minis_place.ensures (under-begins c.args.id.now c.args.r.now)
