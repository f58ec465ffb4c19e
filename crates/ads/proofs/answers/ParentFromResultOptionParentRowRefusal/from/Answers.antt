-- `Parent` of what parent answers. Assumes nothing.
use mathlib.Core.Path.{◌≡◌, refl, sym}
use Rattle.std.specs.declared.option.Option.TheVariants.{Some, None}
use Rattle.metafile.specs.Bytes.{choose}
use Rattle.metafile.specs.Answers.{parent_answer as metafile_parent_answer}
use Rattle.ads.specs.Answers.{parent_answer, parent_alone}
use Rattle.ads.proofs.Structs.{refusal-chosen}
use Rattle.ads.proofs.answers.ParentFromResultOptionParentRowRefusal.from.Goals as goal

pub returns-in-Ok-Some : goal.returns-in-Ok-Some
unfolding parent_answer metafile_parent_answer choose
returns-in-Ok-Some c =
    let some : c.in-Ok-Some.field-0 ≡ Some c.in-Ok-Some.parent = rw c.in-Ok-Some.is at c.in-Ok-Some.field-0-is in
    rw (c.in-Ok-Some.is, some) (refl, refl)

pub returns-in-Ok-None : goal.returns-in-Ok-None
unfolding parent_answer metafile_parent_answer choose
returns-in-Ok-None c =
    let none : c.in-Ok-None.field-0 ≡ None = rw c.in-Ok-None.is at c.in-Ok-None.field-0-is in
    rw (c.in-Ok-None.is, none, c.no_parent.ensures) (refl, refl)

pub returns-in-Err : goal.returns-in-Err
unfolding parent_answer metafile_parent_answer
returns-in-Err c =
    let r = c.in-Err.refusal in
    rw (c.in-Err.is, c.no_parent-in-Err.ensures, c.number.ensures) (refusal-chosen r _ _, sym (refusal-chosen r _ parent_alone))
