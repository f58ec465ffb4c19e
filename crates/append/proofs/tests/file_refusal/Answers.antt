-- `append::tests::file_refusal` meets its contract. Assumes nothing.
use Prim.Native.Nat.{◌+◌, ◌-◌}
use mathlib.Core.Bool.{false}
use mathlib.Core.Path.{◌≡◌, sym, ap, ◌∙◌}
use native.Mathlib.Omega.{arith}
use lib.ListN.{take, drop}
use borrow.Author.Tests.{not-true, not-false}
use Rattle.metafile.specs.Bytes.{all, non_zero}
use Rattle.metafile.specs.Header.{mark_of}
use Rattle.writer.specs.Parents.{parents_refused}
use Rattle.append.proofs.Files.{mark-room, mark-found}
use Rattle.append.proofs.Held.{refused-13, refused-9, refused-15, held}
use mathlib.Core.Bool.{not}
use Rattle.append.proofs.tests.file_refusal.Goals as goal
use Rattle.append.proofs.tests.file_refusal.Goals.{Else-parents_wrong, Start}

clear-is : (s : Start) → all non_zero (mark_of s.args.file.now) ≡ all non_zero (take (65 + s.args.h.mark - 65) (drop 65 s.args.file.now))
clear-is s = ap (all non_zero) (sym (mark-found s.args.file.now s.args.h s.requires.h_value s.requires.number_value))

right : (c : Else-parents_wrong) → parents_refused c.args.count c.args.parents.now ≡ false
right c = sym c.parents_wrong.ensures ∙ c.if-parents_wrong.false

pub returns-then-parents_wrong : goal.returns-then-parents_wrong
returns-then-parents_wrong c =
    let args = c.args in
    refused-13 args.file.now args.count args.known args.parents.now (sym c.parents_wrong.ensures ∙ c.if-parents_wrong.true)

pub returns-then-known : goal.returns-then-known
returns-then-known c =
    let args = c.args in
    refused-9 args.file.now args.count args.known args.parents.now (right (goal.at.returns-then-known c).Else-parents_wrong) c.if-known.true

pub overflow_add-end : goal.overflow_add-end
overflow_add-end c =
    let s = c in
    omega (arith, mark-room s.args.file.now s.args.h s.requires.h_value s.requires.number_value)

pub slice_bounds-is_clear-end : goal.slice_bounds-is_clear-end
slice_bounds-is_clear-end c =
    let s = c in
    omega (arith, mark-room s.args.file.now s.args.h s.requires.h_value s.requires.number_value)

pub returns-then-not-is_clear : goal.returns-then-not-is_clear
returns-then-not-is_clear c =
    let new = c in
    let start = new in
    refused-15 start.args.file.now start.args.count start.args.known start.args.parents.now (right (goal.at.returns-then-not-is_clear c).Else-parents_wrong) new.if-known.false
    (clear-is (goal.at.returns-then-not-is_clear c).Start ∙ sym c.is_clear.ensures ∙ not-true _ (ap not c.if-not-is_clear.true))

pub returns : goal.returns
returns c =
    let new = c in
    let start = new in
    held start.args.file.now start.args.count start.args.known start.args.parents.now (right (goal.at.returns c).Else-parents_wrong) new.if-known.false
    (clear-is (goal.at.returns c).Start ∙ sym c.is_clear.ensures ∙ not-false _ (ap not c.if-not-is_clear.false))
