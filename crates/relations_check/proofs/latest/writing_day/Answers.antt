-- `relations_check::latest::writing_day` meets its contract. Assumes nothing.
use Prim.Native.Nat.{◌+◌}
use mathlib.Core.Path.{refl, sym, ap, ◌∙◌}
use native.Mathlib.Omega.{arith}
use Rattle.metafile.specs.Days.{day_read, day_value_of}
use Rattle.metafile.specs.Relations.{writing_day}
use Rattle.laws.proofs.Stages.{slice_is}
use Rattle.relations_check.proofs.Choosing.{Dated, dated}
use Rattle.relations_check.proofs.latest.writing_day.Goals as goal
use Rattle.relations_check.proofs.latest.writing_day.Goals.{Start}

inside : (k : Start) → Dated k.args.file.now k.args.c.row (let c = k.args.c in c.at + c.layout.contents + c.layout.bytes + c.header.mark + 163)
inside k = dated k.requires

pub overflow_add-closing : goal.overflow_add-closing
overflow_add-closing c = let k = c in omega (arith, (inside (goal.at.overflow_add-closing c).Start).inside, k.requires.small)

pub overflow_add-closing-2 : goal.overflow_add-closing-2
overflow_add-closing-2 c = let k = c in omega (arith, (inside (goal.at.overflow_add-closing-2 c).Start).inside, k.requires.small)

pub overflow_add-at : goal.overflow_add-at
overflow_add-at c = let k = c in omega (arith, (inside (goal.at.overflow_add-at c).Start).inside, k.requires.small)

pub overflow_add-at-2 : goal.overflow_add-at-2
overflow_add-at-2 c = let k = c in omega (arith, (inside (goal.at.overflow_add-at-2 c).Start).inside, k.requires.small)

pub overflow_add-at-3 : goal.overflow_add-at-3
overflow_add-at-3 c = let k = c in omega (arith, (inside (goal.at.overflow_add-at-3 c).Start).inside, k.requires.small)

pub slice_bounds-read_date-end : goal.slice_bounds-read_date-end
slice_bounds-read_date-end c = omega (arith, (inside (goal.at.slice_bounds-read_date-end c).Start).inside)

pub day_number-requires : goal.day_number-requires
day_number-requires c = record { of = _; is = c.read_date-day.ensures }

pub returns : goal.returns
unfolding writing_day
returns c =
    let d = c in
    let k = d in
    c.day_number.ensures
    ∙ ap day_value_of (d.read_date-day.ensures ∙ ap day_read (slice_is (let c = k.args.c in c.at + c.layout.contents + c.layout.bytes + c.header.mark + 163) ((let c = k.args.c in c.at + c.layout.contents + c.layout.bytes + c.header.mark + 163) + 8) 8 k.args.file.now refl ∙ sym (inside (goal.at.returns c).Start).is))
