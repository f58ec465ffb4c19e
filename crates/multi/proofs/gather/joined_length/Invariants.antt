-- `multi::gather::joined_length` meets its contract. The loop: what is joined so far has so many bytes. Assumes nothing.
use lib.ListN.{drop}
use Rattle.metafile.specs.Multi.{multi_joined}
use Rattle.multi.specs.Part.{each_under}
use Rattle.multi.proofs.MiniWalk.{Joined}
use Rattle.multi.proofs.gather.joined_length.Given as goal

abbrev pub invariant-loop-data : goal.invariant-loop-data
invariant-loop-data l =
    let u = l.data-iterator in
    Joined (multi_joined l.id l.r) (each_under u.id.now 0 (drop u.at u.r.now)) l.done
