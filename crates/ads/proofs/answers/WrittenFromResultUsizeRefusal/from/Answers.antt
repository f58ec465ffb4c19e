-- `Written` of what a call answers. Assumes nothing.
use mathlib.Core.Path.{refl, sym}
use Rattle.metafile.specs.Bytes.{choose}
use Rattle.metafile.specs.Answers.{count_answer}
use Rattle.ads.specs.Answers.{written_answer, written_alone}
use Rattle.ads.proofs.Structs.{refusal-chosen}
use Rattle.ads.proofs.answers.WrittenFromResultUsizeRefusal.from.Goals as goal

pub returns-in-Ok : goal.returns-in-Ok
unfolding written_answer count_answer choose
returns-in-Ok c = rw c.in-Ok.is (refl, refl)

pub returns-in-Err : goal.returns-in-Err
unfolding written_answer count_answer
returns-in-Err c =
    let r = c.in-Err.refusal in
    rw (c.in-Err.is, c.number.ensures) (refusal-chosen r _ _, sym (refusal-chosen r _ written_alone))
