-- `multi::gather::put_joined` meets its contract. Assumes nothing.
use Rattle.std.proofs.Common.{rules}
use Rattle.multi.proofs.MiniWalk.{put-begins, put-goes}
use Rattle.multi.proofs.gather.put_joined.Goals as goal

pub loop-data-init : goal.loop-data-init
loop-data-init c = put-begins (search rules)

pub loop-data-preserved : goal.loop-data-preserved
loop-data-preserved c =
    rw (c.put_bytes-done.ensures.0, c.put_bytes-done.ensures.1)
    (put-goes c.loop-data.invariant c.in-Some.ensures.steps c.requires.r_in_bounds)
