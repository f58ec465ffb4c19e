-- `relations_check::text_lines::LinesIterator::next` meets its contract. Assumes nothing.
use Prim.Native.Nat.{◌+◌}
use mathlib.Core.List.{[], ◌∷◌, append-nil}
use mathlib.Core.Path.{◌≡◌, sym, ap, ◌∙◌}
use native.Mathlib.Omega.{arith}
use lib.ListN.{length, take}
use lib.Seq.{length-take-le}
use Rattle.metafile.specs.Bytes.{find}
use Rattle.laws.proofs.Lists.{find-fits}
use Rattle.laws.proofs.Loops.{part-drop}
use Rattle.relations_check.specs.TextLines.{lines_left, lines_of}
use Rattle.relations_check.proofs.Lines.{line-last, line-before}
use Rattle.relations_check.proofs.text_lines.LinesIterator.next.Goals as goal
use Rattle.relations_check.proofs.text_lines.LinesIterator.next.Goals.{After-find_plain-end, Joined-end-text, then-end-text, else-end-text}

found : (c : After-find_plain-end) → c.find_plain-end.result ≡ find (10 ∷ []) c.in_ok-text.text.now
found c = c.find_plain-end.ensures ∙ ap (find (10 ∷ [])) (append-nil c.in_ok-text.text.now)

-- the first line of what was left, and what is left behind it
next : (c : Joined-end-text) → lines_left c.args.self.now ≡ take c.find_plain-end.result c.in_ok-text.text.now ∷ lines_of c.if-end-text.self
next c =
    let text = c.in_ok-text.text.now in
    let end = c.find_plain-end.result in
    let is : end ≡ find (10 ∷ []) text = c.find_plain-end.ensures ∙ ap (find (10 ∷ [])) (append-nil text) in
    ap lines_of c.in_ok-text.was
    ∙ elim c.if-end-text.branch [
      | then-end-text w ↦ rw (w.self-is, part-drop text (end + 1)) (line-before text end is w.if-end-text.true)
      | else-end-text w ↦ rw w.self-is (line-last text end is w.if-end-text.false)
    ]

pub slice_bounds-result-end : goal.slice_bounds-result-end
slice_bounds-result-end c =
    let e = (goal.at.slice_bounds-result-end c).After-find_plain-end in
    sym (length-take-le _ _ (omega (arith, found e, find-fits (10 ∷ []) c.in_ok-text.text.now)))

pub returns-clause-steps : goal.returns-clause-steps
returns-clause-steps c = next (goal.at.returns-clause-steps c).Joined-end-text

pub returns-clause-goes : goal.returns-clause-goes
returns-clause-goes c =
    let long = ap length (next (goal.at.returns-clause-goes c).Joined-end-text) in
    record { on = λ f. (tt, f, omega arith); keeps = tt; rests = λ f. tt }
