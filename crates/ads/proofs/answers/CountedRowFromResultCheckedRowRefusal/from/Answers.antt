-- `CountedRow` of what a call answers. Assumes nothing.
use mathlib.Core.Path.{refl, sym}
use Rattle.metafile.specs.Bytes.{choose}
use Rattle.metafile.specs.Answers.{checked_answer}
use Rattle.ads.specs.Answers.{counted_row_answer, counted_row_alone}
use Rattle.ads.proofs.Structs.{refusal-chosen}
use Rattle.ads.proofs.answers.CountedRowFromResultCheckedRowRefusal.from.Goals as goal

pub returns-in-Ok : goal.returns-in-Ok
unfolding counted_row_answer checked_answer choose
returns-in-Ok c = rw c.in-Ok.is (refl, refl)

pub returns-in-Err : goal.returns-in-Err
unfolding counted_row_answer checked_answer
returns-in-Err c =
    let r = c.in-Err.refusal in
    rw (c.in-Err.is, c.number.ensures) (refusal-chosen r _ _, sym (refusal-chosen r _ counted_row_alone))
