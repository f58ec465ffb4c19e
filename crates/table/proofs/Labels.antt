-- What a comparison with a label needs, and a copy that puts one.
--     label-room label_inside label-taken  a label stands in the bytes that the code has for it
--     label-short label-compared            a comparison with a label
--     copied                                bytes copied into a part of a buffer
--     put-fits put-place label-put          a label put
-- Assumes nothing.
use Prim.Native.Nat.{ℕ, ◌+◌, ◌-◌, ◌≤◌, ◌<◌}
use mathlib.Core.Bool.{Bool}
use mathlib.Core.Path.{◌≡◌, sym, ◌∙◌}
use mathlib.Core.List.{List}
use native.Mathlib.Omega.{arith}
use lib.ListN.{length, take, drop, length-drop}
use lib.Seq.{drop-drop, length-take-le}
use borrow.Rule.Slice.PartMut.{put_mid}
use Rattle.table.specs.declared.Line.{Line as CodeLine}
use Rattle.table.specs.Codes.{line_no, code_no}
use Rattle.metafile.specs.Bytes.{same, require}
use Rattle.metafile.specs.Lines.{fixed_fault, fixed, fault}
use Rattle.metafile.specs.Answers.{placed}
use Rattle.laws.proofs.Table.{field-long}
use Rattle.laws.proofs.Loops.{fixed-short}
use Rattle.table.proofs.Lines.{label-part, label-fits, label-held, label-long}

-- bytes copied into the part of a buffer that starts at a place and is as long
pub copied : (at n : ℕ) (s b ys : List ℕ) → n ≡ length s → ys ≡ s → put_mid at (at + n - at) b ys ≡ placed at s b
unfolding placed
copied at n s b ys l e =
    let long : at + n - at ≡ n = omega arith in
    rw (e, long, drop-drop n at b, ← l)

-- a line of the code
module _ (i : ℕ) (h : i < 24) (line : CodeLine) (is : line ≡ code_no i) where
  pub label-room : line.long ≤ length line.label
  label-room = rw is (label-held i h)

  pub label_inside : line.long ≤ 38
  label_inside = rw is (label-fits i h)

  pub label-taken : line.long ≡ length (take line.long line.label)
  label-taken = sym (length-take-le line.long line.label label-room)

  long-is : length (line_no i).label ≡ line.long
  long-is = rw is (label-long i h)

  here : (line_no i).label ≡ take line.long line.label
  here = rw is (label-part i h)

  -- ---- a comparison with the label

  module _ (s : List ℕ) (at : ℕ) where
    pub label-short : length s - at < line.long → 4 ≡ fault (fixed (line_no i).label) (drop at s)
    label-short l = fixed-short (line_no i).label (drop at s) (simp (length-drop, long-is) l)

    module _ (fits : at + line.long ≤ length s) where
      room : length (line_no i).label ≤ length (drop at s)
      room = simp (length-drop, long-is) (omega arith)

      -- the part of the file compared with the part of the labels
      pub label-compared : (b : Bool) → b ≡ same (take (at + line.long - at) (drop at s)) (take line.long line.label)
          → require b 5 ≡ fault (fixed (line_no i).label) (drop at s)
      unfolding fault fixed_fault
      label-compared b e =
          let long : at + line.long - at ≡ length (line_no i).label = omega (arith, long-is) in
          let test : b ≡ same (take (length (line_no i).label) (drop at s)) (line_no i).label = e ∙ rw (long, ← here) in
          sym (field-long (length (line_no i).label) (fixed_fault (line_no i).label) (drop at s) room ∙ rw (← test))

  -- ---- the label put at a place of a buffer

  module _ (b : List ℕ) (at : ℕ) (fits : at + length (line_no i).label ≤ length b) where
    pub put-fits : at + line.long ≤ length b
    put-fits = omega (arith, long-is)

    pub put-place : at + line.long ≡ at + length (line_no i).label
    put-place = omega (arith, long-is)

    pub label-put : (ys : List ℕ) → ys ≡ take line.long line.label → put_mid at (at + line.long - at) b ys ≡ placed at (line_no i).label b
    label-put ys e = rw here (copied at line.long (take line.long line.label) b ys label-taken e)
