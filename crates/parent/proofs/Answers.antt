-- The answers of parent, by its tests ("Parent, contents and gather test 11 and then by rising number").
--     compared                           n bytes from each of two places on, as slices give them and the library compares them
--     refused-row refused-14             a number only
--     dependency-inside                  a dependency of a row that is there lies inside the file
--     Met, met                           the row with a serial number is there: its place, inside the file
--     missing answered                   no row has its serial; the row that has it, and whether the sub-formats agree
-- Assumes nothing.
use Prim.Native.Nat.{ℕ, ◌+◌, ◌-◌, ◌*◌, ◌≤◌, ◌<◌}
use mathlib.Core.Bool.{Bool, true, false}
use mathlib.Core.Path.{◌≡◌, refl, sym, ap, ◌∙◌}
use mathlib.Core.List.{List, [], ◌∷◌}
use native.Mathlib.Omega.{arith}
use lib.Dec.{eqb, ltb}
use lib.Pointwise.{pointwise}
use lib.ListN.{length, take, drop}
use lib.Seq.{drop-drop}
use borrow.Author.Tests.{le-leb, lt-leb, lt-ltb, ltb-true}
use Rattle.std.specs.declared.option.Option.TheVariants.{Some, None}
use Rattle.std.specs.declared.result.Result.TheVariants.{Ok, Err}
use Rattle.metafile.specs.declared.refusal.Refusal.{Refusal}
use Rattle.metafile.specs.declared.refusal.Refusal.TheVariants.{NoDependency}
use Rattle.metafile.specs.Refusals.{number_of}
use Rattle.metafile.specs.Bytes.{part, same}
use Rattle.metafile.specs.Chunk.{sub_format, dependency_serial_of, dependency_sub_format_of}
use Rattle.metafile.specs.Reading.{rows_of}
use Rattle.metafile.specs.Answers.{refused, parent_answer, first_refusal}
use Rattle.metafile.specs.Append.{row_no, sub_format_of}
use Rattle.metafile.specs.Calls.{row_with, chunk_of, parent_row, agree, parent_tests, parent}
use Rattle.laws.proofs.First.{untrue, test, choose-go, choose-stop}
use Rattle.laws.proofs.Accepted.{refusal-first, refusal-next, tests-end}
use Rattle.chunk_laws.proofs.Places.{RowInside, row_inside}
use Rattle.walk.specs.declared.cursor.Cursor.{Cursor}
use Rattle.walk.specs.declared.answers.Placed.{Placed}
use Rattle.walk.specs.Walk.{numbered_of}
use Rattle.walk.specs.Cursor.{cursor_none, named_of}
use Rattle.walk.proofs.Named.{tests-on, Named, named, refused_by}

slice_is : (s : List ℕ) (a n : ℕ) → take (a + n - a) (drop a s) ≡ part a n s
slice_is s a n = let e : a + n - a ≡ n = omega arith in rw e

same-pointwise : (a b : List ℕ) → pointwise eqb a b ≡ same a b
unfolding same
same-pointwise [] [] = refl
same-pointwise [] (y ∷ b) = refl
same-pointwise (x ∷ a) [] = refl
same-pointwise (x ∷ a) (y ∷ b) = rw (same-pointwise a b)

pub compared : (s : List ℕ) (a b n : ℕ) → pointwise eqb (take (a + n - a) (drop a s)) (take (b + n - b) (drop b s)) ≡ same (part a n s) (part b n s)
compared s a b n = rw (slice_is s a n, slice_is s b n) (same-pointwise (part a n s) (part b n s))

-- m bytes from a place of the chunk at p, as bytes of the file
in-chunk : (file : List ℕ) (p a m : ℕ) → part (p + a) m file ≡ part a m (drop p file)
in-chunk file p a m = rw (drop-drop a p file)

-- ---- a row by its serial number

pub record Met (file x : List ℕ) (f : Placed) : Type 0 where
  pub row_is : f.row ≡ row_with x (rows_of file)
  pub in-rows : f.row < length (rows_of file)
  pub place-is : f.place ≡ (row_no (rows_of file) f.row).place
  pub lies : RowInside file (row_no (rows_of file) f.row)

module _ (file x : List ℕ) where
  pub unmet : None ≡ numbered_of file x → ltb (row_with x (rows_of file)) (length (rows_of file)) ≡ false
  unfolding numbered_of
  unmet e = test (ltb (row_with x (rows_of file)) (length (rows_of file))) (λ q. let z = rw q at e in cc) (λ q. q)

  pub met : (f : Placed) → Some f ≡ numbered_of file x → Met file x f
  unfolding numbered_of
  met f e =
      test (ltb (row_with x (rows_of file)) (length (rows_of file)))
      (λ q.
      let z = rw q at e in
      let is : f ≡ record { row = row_with x (rows_of file); place = (row_no (rows_of file) (row_with x (rows_of file))).place } = cc in
      let row : f.row ≡ row_with x (rows_of file) = ap (λ (y : Placed). y.row) is in
      let below : f.row < length (rows_of file) = rw row (ltb-true _ _ q) in
      record { row_is = row; in-rows = below; place-is = ap (λ (y : Placed). y.place) is ∙ rw row; lies = row_inside file f.row below })
      (λ q. let z = rw q at e in absurd cc)

-- ---- the answers

-- the number of what is refused isn't 0
number-some : (file : List ℕ) (k : ℕ) (r : Refusal) → cursor_none (number_of r) ≡ named_of file k → number_of r ≡ 0 → ⊥
unfolding cursor_none
number-some file k r e z = untrue (named file k (cursor_none (number_of r)) e z).goes

module _ (file : List ℕ) (k j : ℕ) where
  refused-with : (r : Refusal) → (number_of r ≡ 0 → ⊥) → first_refusal (parent_tests file k j) ≡ number_of r → parent_answer (Err r) ≡ parent file k j
  unfolding parent parent_answer
  refused-with r y e = sym (choose-stop (first_refusal (parent_tests file k j)) _ _ (λ z. y (sym e ∙ z)) ∙ ap refused e)

  -- 11 and 13
  pub refused-row : (r : Refusal) → cursor_none (number_of r) ≡ named_of file k → parent_answer (Err r) ≡ parent file k j
  unfolding parent_tests
  refused-row r e = refused-with r (number-some file k r e) (refused_by file k r e _)

  module _ (own : Cursor) (w : Named file k own) where
    pub refused-14 : own.layout.dependencies ≤ j → parent_answer (Err NoDependency) ≡ parent file k j
    unfolding parent_tests
    refused-14 e =
        let d : (row_no (rows_of file) k).dependencies ≤ j = omega (arith, w.dependencies-is) in
        refused-with NoDependency (λ z. omega arith) (tests-on _ _ k _ w.file-small w.in_rows ∙ refusal-first 14 _ [] (le-leb _ _ d))

    module _ (l : j < own.layout.dependencies) where
      pub dependency-inside : own.at + 568 + 344 * j + 344 ≤ length file
      dependency-inside = omega (arith, w.lies.dependencies-inside, w.place_is, w.dependencies-is)

      none : first_refusal (parent_tests file k j) ≡ 0
      unfolding parent_tests
      none =
          let d : j < (row_no (rows_of file) k).dependencies = omega (arith, w.dependencies-is) in
          tests-on _ _ k _ w.file-small w.in_rows ∙ refusal-next 14 _ [] (lt-leb _ _ d) ∙ tests-end

      -- the row with the dependency's serial number
      row_is : row_with (part (own.at + 568 + 344 * j + 25) 38 file) (rows_of file) ≡ parent_row file k j
      unfolding parent_row chunk_of dependency_serial_of
      row_is =
          let place : own.at + 568 + 344 * j + 25 ≡ (row_no (rows_of file) k).place + (568 + 344 * j + 25) = omega (arith, w.place_is) in
          rw (place, in-chunk file (row_no (rows_of file) k).place (568 + 344 * j + 25) 38)

      pub missing : None ≡ numbered_of file (part (own.at + 568 + 344 * j + 25) 38 file) → parent_answer (Ok None) ≡ parent file k j
      unfolding parent parent_answer
      missing t =
          let out : ltb (parent_row file k j) (length (rows_of file)) ≡ false = rw row_is at (unmet file _ t) in
          sym (choose-go (first_refusal (parent_tests file k j)) _ _ none ∙ rw out)

      pub answered : (f : Placed) → Met file (part (own.at + 568 + 344 * j + 25) 38 file) f
          → (b : Bool) → b ≡ same (part (own.at + 568 + 344 * j + 87) 256 file) (part (f.place + 46) 256 file)
          → parent_answer (Ok (Some (record { row = f.row; agree = b }))) ≡ parent file k j
      unfolding parent parent_answer agree chunk_of sub_format_of sub_format dependency_sub_format_of
      answered f v b q =
          let p : parent_row file k j ≡ f.row = sym (v.row_is ∙ row_is) in
          let place : own.at + 568 + 344 * j + 87 ≡ (row_no (rows_of file) k).place + (568 + 344 * j + 87) = omega (arith, w.place_is) in
          let there : ltb f.row (length (rows_of file)) ≡ true = lt-ltb _ _ v.in-rows in
          let is : b ≡ same (part (568 + 344 * j + 87) 256 (drop (row_no (rows_of file) k).place file)) (part 46 256 (drop (row_no (rows_of file) f.row).place file)) =
          q ∙ rw (place, v.place-is, in-chunk file (row_no (rows_of file) k).place (568 + 344 * j + 87) 256, in-chunk file (row_no (rows_of file) f.row).place 46 256) in
          sym (choose-go (first_refusal (parent_tests file k j)) _ _ none ∙ rw (p, there, ← is))
