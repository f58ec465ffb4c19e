-- The part that a row names ("Parent, contents and gather test 11 and then by rising number").
--     part-refused part-named   an empty part and the number; the row's contents place and contents bytes
--     part-inside               it lies inside the file
--     part-outcome handed       it is what contents hands back: read from the file, and as a slice
-- Assumes nothing.
use Prim.Native.Nat.{ℕ, zero, suc, ◌+◌, ◌-◌, ◌≤◌}
use mathlib.Core.Path.{◌≡◌, refl, sym, ap, ◌∙◌}
use mathlib.Core.List.{List, []}
use native.Mathlib.Omega.{arith}
use lib.ListN.{length, take, drop}
use Rattle.metafile.specs.declared.Row.{Row}
use Rattle.metafile.specs.declared.refusal.Refusal.{Refusal}
use Rattle.metafile.specs.Refusals.{number_of}
use Rattle.metafile.specs.Bytes.{choose}
use Rattle.metafile.specs.Reading.{rows_of}
use Rattle.metafile.specs.Answers.{first_refusal}
use Rattle.metafile.specs.Append.{row_no}
use Rattle.metafile.specs.Calls.{row_contents, contents_tests, contents}
use Rattle.laws.proofs.First.{untrue, cases, choose-go, choose-stop}
use Rattle.laws.proofs.Accepted.{tests-end}
use Rattle.walk.specs.declared.cursor.Cursor.{Cursor}
use Rattle.walk.specs.Cursor.{cursor_none, named_of}
use Rattle.chunk_laws.proofs.Places.{row_inside}
use Rattle.walk.proofs.Named.{Named, tests-on, none_passed, named, refused_by}
use Rattle.contents.specs.declared.Part.{Part}
use Rattle.contents.specs.Outcome.{contents_outcome, part_named, part_alone, part_of, part_outcome}

-- ---- the part

-- the number of what is refused isn't 0
number-some : (file : List ℕ) (k : ℕ) (r : Refusal) → cursor_none (number_of r) ≡ named_of file k → number_of r ≡ 0 → ⊥
unfolding cursor_none
number-some file k r e z = untrue (named file k (cursor_none (number_of r)) e z).goes

module _ (file : List ℕ) (k : ℕ) where
  pub part-refused : (r : Refusal) → cursor_none (number_of r) ≡ named_of file k → part_alone (number_of r) ≡ part_of file k
  unfolding part_of contents_tests
  part-refused r e =
      let number = refused_by file k r e [] in
      sym (choose-stop (first_refusal (contents_tests file k)) _ _ (λ q. number-some file k r e (sym number ∙ q)) ∙ ap part_alone number)

  pub part-named : (c : Cursor) → Named file k c → record { place = c.at + c.layout.contents; bytes = c.layout.bytes; number = 0 } ≡ part_of file k
  unfolding part_of part_named contents_tests
  part-named c w =
      let none : first_refusal (contents_tests file k) ≡ 0 = tests-on _ _ k [] w.file-small w.in_rows ∙ tests-end in
      rw (w.contents-is, w.bytes-is) (sym (choose-go (first_refusal (contents_tests file k)) _ _ none))

-- ---- what contents hands back

part-handed : (m : ℕ) (file : List ℕ) (r : Row)
    → part_outcome file (choose m (part_named r) part_alone) ≡ choose m (contents_outcome (row_contents file r) 0) (contents_outcome [])
unfolding part_outcome choose part_named row_contents
part-handed zero file r = refl
part-handed (suc m) file r = refl

module _ (file : List ℕ) (k : ℕ) (p : Part) (e : p ≡ part_of file k) where
  pub part-outcome : part_outcome file p ≡ contents file k
  unfolding part_of contents
  part-outcome = ap (part_outcome file) e ∙ part-handed (first_refusal (contents_tests file k)) file (row_no (rows_of file) k)

  pub handed : contents_outcome (take (p.place + p.bytes - p.place) (drop p.place file)) p.number ≡ contents file k
  unfolding part_outcome
  handed =
      let bytes : p.place + p.bytes - p.place ≡ p.bytes = omega arith in
      rw bytes part-outcome

  pub handed-none : p.place ≡ 0 → p.bytes ≡ 0 → contents_outcome [] p.number ≡ contents file k
  unfolding part_outcome
  handed-none a b = rw (a, b) at part-outcome

  pub part-inside : p.place + p.bytes ≤ length file
  unfolding part_of part_named
  part-inside =
      cases (first_refusal (contents_tests file k))
      (λ z.
      let is = e ∙ choose-go (first_refusal (contents_tests file k)) _ _ z in
      let w = row_inside file k (none_passed file k z).1 in
      rw is w.contents-inside)
      (λ n z.
      let is = e ∙ choose-stop (first_refusal (contents_tests file k)) _ _ (λ q. omega arith) in
      rw is (omega arith))
