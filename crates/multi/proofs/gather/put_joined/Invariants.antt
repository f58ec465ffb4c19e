-- `multi::gather::put_joined` meets its contract. The loop: the buffer holds what is joined so far. Assumes nothing.
use lib.ListN.{drop}
use Rattle.metafile.specs.Multi.{multi_joined}
use Rattle.multi.specs.Part.{each_under}
use Rattle.multi.proofs.MiniWalk.{Put}
use Rattle.multi.proofs.gather.put_joined.Given as goal

abbrev pub invariant-loop-data : goal.invariant-loop-data
invariant-loop-data l =
    let u = l.data-iterator in
    Put (multi_joined l.id l.r) l.initial.buffer (each_under u.id.now 0 (drop u.at u.r.now)) l.done l.buffer
