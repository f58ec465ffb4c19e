-- `relations_check::window::Rows::verdict` meets its contract. Assumes nothing.
use Prim.Native.Nat.{ℕ, ◌+◌}
use mathlib.Core.Bool.{Bool, true, false, cond, ◌||◌}
use mathlib.Core.Path.{◌≡◌, sym, ◌∙◌}
use mathlib.Core.List.{List}
use Rattle.metafile.specs.Relations.{split_on, verdict_by}
use Rattle.relation_line.specs.Form.{form_of}
use Rattle.relations_check.specs.Judged.{declared_below}
use Rattle.relations_check.proofs.Lines.{named-form}
use Rattle.relations_check.proofs.Declared.{below-kept, verdict-kept, verdict-form, verdict-now}
use Rattle.relations_check.proofs.window.Rows.verdict.Goals as goal
use Rattle.relations_check.proofs.window.Rows.verdict.Goals.{Start, else-before-from-via-then-before-from+else-declares, else-before-from-via-else-before-from}

abbrev before : Start → List (List ℕ) → Bool
before k = declared_below k.args.self.file.now k.args.self.window.from

abbrev after : Start → List (List ℕ) → Bool
after k = declared_below k.args.self.file.now (k.args.self.window.from + k.args.self.window.entries)

more : (k : Start) → before k (split_on 9 k.args.line.now) ≡ true → after k (split_on 9 k.args.line.now) ≡ true
more k = below-kept k.args.self.file.now k.args.self.window.from k.args.self.window.entries (split_on 9 k.args.line.now)

some : (k : Start) → form_of k.args.line.now ≡ 0 → ⊥
some k = named-form k.args.line.now k.requires.line_value

-- one that is undeclared so far
now : (k : Start) → k.args.before ≡ 2 → (b : Bool)
    → (before k (split_on 9 k.args.line.now) || b) ≡ after k (split_on 9 k.args.line.now) → cond b 1 2 ≡ verdict_by (after k) k.args.line.now
now k = verdict-now (before k) (after k) k.args.line.now (more k) (some k) _ k.requires.before_value

pub declares-requires : goal.declares-requires
declares-requires c =
    let k = (goal.at.declares-requires c).Start in
    verdict-form (before k) (after k) k.args.line.now (more k) (some k) _ k.requires.before_value (c.if-before-from.true ∙ c.from.ensures)

pub returns-then-declares : goal.returns-then-declares
returns-then-declares c =
    let k = (goal.at.returns-then-declares c).Start in
    c.from-then-declares.ensures ∙ now k (c.if-before-from.true ∙ c.from.ensures) true (rw c.if-declares.true at c.declares.ensures)

pub returns : goal.returns
returns c =
    let k = (goal.at.returns c).Start in
    elim c.else-before-from.branch [
      | else-before-from-via-then-before-from+else-declares w ↦
          let two : k.args.before ≡ 2 = w.if-before-from.true ∙ c.from.ensures in
          two ∙ now k two false (rw w.if-declares.false at w.declares.ensures)
      | else-before-from-via-else-before-from w ↦
          verdict-kept (before k) (after k) k.args.line.now (more k) (some k) _ k.requires.before_value (λ two. w.if-before-from.false (two ∙ sym c.from.ensures))
    ]
