-- `Counted` of what a call answers. Assumes nothing.
use mathlib.Core.Path.{refl, sym}
use Rattle.metafile.specs.Bytes.{choose}
use Rattle.metafile.specs.Answers.{count_answer}
use Rattle.ads.specs.Answers.{counted_answer, counted_alone}
use Rattle.ads.proofs.Structs.{refusal-chosen}
use Rattle.ads.proofs.answers.CountedFromResultUsizeRefusal.from.Goals as goal

pub returns-in-Ok : goal.returns-in-Ok
unfolding counted_answer count_answer choose
returns-in-Ok c = rw c.in-Ok.is (refl, refl)

pub returns-in-Err : goal.returns-in-Err
unfolding counted_answer count_answer
returns-in-Err c =
    let r = c.in-Err.refusal in
    rw (c.in-Err.is, c.number.ensures) (refusal-chosen r _ _, sym (refusal-chosen r _ counted_alone))
