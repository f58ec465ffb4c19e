-- Relations rows by their serial numbers, and dependencies that are listed (specs/Found).
--     sub-format-at                 the sub-format of the chunk at a place, as a slice of the file
--     row-finds none-finds          a serial number finds the row that has it, or none
--     row-chunk                     row k's chunk, by its place
--     row-scanned row-passed rows-scanned   the rows gone through one by one
--     held_none held-other held_kept held_more   the relations rows so far in a directory
--     found-there found-scanned found_none   the directory searched, then the rows behind it
--     unlisted listed-is            a dependency is listed or not
-- Assumes nothing.
use Prim.Native.Nat.{ℕ, ◌+◌, ◌-◌, ◌*◌, ◌≤◌, ◌<◌}
use mathlib.Core.Bool.{Bool, true, false, not}
use mathlib.Core.Bool.{Bool-set}
use mathlib.Core.Logic.{∥∥₁_elim}
use mathlib.Core.Path.{◌≡◌, refl, sym, ap, ◌∙◌}
use mathlib.Core.List.{List}
use native.Mathlib.Omega.{arith}
use lib.Dec.{ltb, eqb}
use lib.ListN.{length, take, drop}
use lib.Seq.{drop-drop}
use borrow.Author.Tests.{lt-ltb, le-ltb, ltb-true, ltb-false, eqb-true, eqb-false}
use Rattle.metafile.specs.Bytes.{part, same}
use Rattle.metafile.specs.Fields.{same_serial}
use Rattle.metafile.specs.Chunk.{sub_format, dependency_serial_of, dependency_sub_format_of}
use Rattle.metafile.specs.Reading.{rows_of}
use Rattle.metafile.specs.Append.{row_no}
use Rattle.metafile.specs.Calls.{row_with, chunk_of}
use Rattle.metafile.specs.Relations.{relations_name, is_relations}
use Rattle.laws.proofs.First.{test, untrue}
use Rattle.laws.proofs.SameSerial.{serial-sym}
use Rattle.chunk_laws.proofs.Serials.{file-fresh}
use Rattle.directory.specs.Directory.{key_no, Empty, Added, Sought}
use Rattle.directory.proofs.Laws.{none-held, same-part}
use Rattle.walk.specs.declared.answers.Header.{Header}
use Rattle.walk.specs.declared.known.Places.{Places}
use Rattle.walk.specs.Known.{RowPlaces}
use Rattle.walk.proofs.Serials.{with-only, with-other}
use Rattle.relations_write.specs.declared.found.Found.{Found}
use Rattle.relations_write.specs.Found.{finds_relations, listed_in, OfRow, Entry, Held, FoundIn, Scanned}

-- ---- parts of a chunk

part_at : (file : List ℕ) (at a n p : ℕ) → p ≡ at + a → take (p + n - p) (drop p file) ≡ part a n (drop at file)
part_at file at a n p e = let m : p + n - p ≡ n = omega arith in rw (m, e, drop-drop a at file)

pub sub-format-at : (file : List ℕ) (at : ℕ)
    → same (take (at + 46 + 256 - (at + 46)) (drop (at + 46) file)) relations_name ≡ is_relations (drop at file)
unfolding is_relations sub_format
sub-format-at file at = rw (part_at file at 46 256 (at + 46) (omega arith))

-- ---- the row with a serial number

row-finds : (file x : List ℕ) (k : ℕ) → k < length (rows_of file) → same_serial x (row_no (rows_of file) k).serial ≡ true
    → finds_relations file x ≡ is_relations (chunk_of file k)
unfolding finds_relations
row-finds file x k h e =
    rw (with-only x (rows_of file) k h (file-fresh file) e, lt-ltb k (length (rows_of file)) h)

none-finds : (file x : List ℕ) → length (rows_of file) ≤ row_with x (rows_of file) → finds_relations file x ≡ false
unfolding finds_relations
none-finds file x h = rw (le-ltb (row_with x (rows_of file)) (length (rows_of file)) h)

-- ---- rows gone through

module _ (file : List ℕ) (h : Header) (k at : ℕ) (row : Places) (w : RowPlaces file h k at row) where
  pub row-chunk : drop at file ≡ chunk_of file k
  unfolding chunk_of
  row-chunk = rw w.place_is

  -- the serial number of row k compared with x
  module _ (x : List ℕ) (l : k < length (rows_of file)) (b : Bool)
      (e : b ≡ same (take (row.serial + 35 - row.serial) (drop row.serial file)) (take 35 x)) where
    compared : b ≡ same_serial (row_no (rows_of file) k).serial x
    compared = e ∙ same-part file x row.serial ∙ ap (λ (y : List ℕ). same_serial y x) w.serial-is

    pub row-scanned : b ≡ true → (from : ℕ) (r : Bool) → r ≡ is_relations (drop at file) → Scanned file from x r
    row-scanned y from r is =
        let finds : finds_relations file x ≡ r =
        row-finds file x k l (serial-sym _ x (sym compared ∙ y)) ∙ sym (is ∙ ap is_relations row-chunk) in
        record { there = λ q. finds ∙ q; none = λ q f. finds ∙ q }

    pub row-passed : b ≡ false → row_with x (rows_of file) ≡ k → ⊥
    row-passed n =
        with-other x (rows_of file) k l
        (test (same_serial x (row_no (rows_of file) k).serial)
        (λ q. untrue (sym n ∙ compared ∙ serial-sym x _ q))
        (λ q. q))

pub rows-scanned : (file x : List ℕ) (from k : ℕ) → length (rows_of file) ≤ k
    → (from ≤ row_with x (rows_of file) → k ≤ row_with x (rows_of file)) → Scanned file from x false
rows-scanned file x from k h f =
    record { there = λ q. untrue q; none = λ q l. none-finds file x (omega (arith, f l)) }

-- ---- relations rows in a directory

pub held_none : (file d : List ℕ) → Empty d → Held file d 0 0
held_none file d w =
    record { holds = none-held file d w; sound = λ j l. absurd (omega arith); complete = λ i l. absurd (omega arith) }

one_further : {file : List ℕ} {k p : ℕ} → OfRow file k p → OfRow file (k + 1) p
one_further w =
    record { row = w.row; before = omega (arith, w.before); serial-is = w.serial-is; relations = w.relations }

module _ (file d : List ℕ) (k n : ℕ) (w : Held file d k n) where
  -- row k is no relations row
  pub held-other : is_relations (chunk_of file k) ≡ false → Held file d (k + 1) n
  held-other e =
      record {
        holds = w.holds;
        sound = λ j l. one_further (w.sound j l);
        complete =
            λ i l q. test (eqb i k)
            (λ y. untrue (sym e ∙ ap (λ (x : ℕ). is_relations (chunk_of file x)) (sym (eqb-true i k y)) ∙ q))
            (λ y. w.complete i (omega (arith, eqb-false i k y)) q);
      }

  module _ (key start r : ℕ) (d' : List ℕ) (a : Added file key start n d r d') where
    kept-sound : (j : ℕ) → j < n → OfRow file k (key_no d' j)
    kept-sound j l = rw (a.kept j l).0 (w.sound j l)

    kept_entry : (i : ℕ) → i < k → is_relations (chunk_of file i) ≡ true → (m : ℕ) → n ≤ m → Entry file d' m i
    kept_entry i l q m h =
        let e = w.complete i l q in
        record {
          number = e.number;
          below = omega (arith, e.below);
          serial-is = rw (a.kept e.number e.below).0 e.serial-is;
        }

    -- the directory took no entry more
    pub held_kept : r ≡ n → Held file d' k n
    held_kept e =
        record {
          holds = rw e at a.holds;
          sound = kept-sound;
          complete = λ i l q. kept_entry i l q n (omega arith);
        }

    -- it took row k, a relations row
    pub held_more : (r ≡ n → ⊥) → part key 38 file ≡ (row_no (rows_of file) k).serial → is_relations (chunk_of file k) ≡ true
        → Held file d' (k + 1) r
    held_more z s e =
        let one : r ≡ n + 1 = omega (arith, a.more.0, a.more.1, z) in
        let key-is : key_no d' n ≡ key = (a.new one).0 in
        let own : part (key_no d' n) 38 file ≡ (row_no (rows_of file) k).serial = rw key-is s in
        record {
          holds = a.holds;
          sound =
              λ j l. test (eqb j n)
              (λ y. rw (eqb-true j n y) (record { row = k; before = omega arith; serial-is = own; relations = e }))
              (λ y. one_further (kept-sound j (omega (arith, eqb-false j n y))));
          complete =
              λ i l q. test (eqb i k)
              (λ y. rw (eqb-true i k y) (record { number = n; below = omega arith; serial-is = own }))
              (λ y. kept_entry i (omega (arith, eqb-false i k y)) q r (omega arith));
        }

-- ---- the directory searched, then the rows behind it

module _ (file d : List ℕ) (t : Found) (w : FoundIn file d t) (x : List ℕ) (r : ℕ) (s : Sought file d t.entries x r) where
  pub found-there : (r ≡ 0 → ⊥) → true ≡ finds_relations file x
  found-there z =
      ∥∥₁_elim w.held (Bool-set _ _)
      (λ (h : Held file d t.upto t.entries).
      let o = h.sound (r - 1) (omega (arith, s.few, z)) in
      let has = rw o.serial-is at (s.found (omega (arith, z))) in
      sym
      (row-finds file x o.row (omega (arith, o.before, w.few, w.rows_are)) (serial-sym _ x has)
      ∙ o.relations))

  -- the row with the serial number is before those that are gone through
  early : r ≡ 0 → (i : ℕ) → row_with x (rows_of file) ≡ i → i < t.upto → finds_relations file x ≡ false
  early z i is l =
      let h : i < length (rows_of file) = omega (arith, w.few, w.rows_are) in
      let has : same_serial x (row_no (rows_of file) i).serial ≡ true =
      test (same_serial x (row_no (rows_of file) i).serial)
      (λ q. q)
      (λ q. absurd (with-other x (rows_of file) i h q is)) in
      row-finds file x i h has
      ∙ test (is_relations (chunk_of file i))
      (λ q.
      ∥∥₁_elim w.held (Bool-set _ _)
      (λ (k : Held file d t.upto t.entries). let e = k.complete i l q in
      absurd (omega (arith, z, s.all e.number e.below (rw e.serial-is (serial-sym x _ has))))))
      (λ q. q)

  nowhere : r ≡ 0 → (t.upto ≤ row_with x (rows_of file) → finds_relations file x ≡ false) → finds_relations file x ≡ false
  nowhere z f =
      test (ltb (row_with x (rows_of file)) t.upto)
      (λ q. early z (row_with x (rows_of file)) refl (ltb-true _ _ q))
      (λ q. f (ltb-false _ _ q))

  pub found-scanned : r ≡ 0 → (b : Bool) → Scanned file t.upto x b → b ≡ finds_relations file x
  found-scanned z b v =
      test b (λ q. q ∙ sym (v.there q)) (λ q. q ∙ sym (nowhere z (v.none q)))

  pub found_none : r ≡ 0 → t.rows ≤ t.upto → false ≡ finds_relations file x
  found_none z h = sym (nowhere z (λ l. none-finds file x (omega (arith, w.rows_are))))

-- ---- dependencies

module _ (file : List ℕ) (at j p : ℕ) (is : p ≡ at + 568 + 344 * j) where
  sub-format-is : take (p + 87 + 256 - (p + 87)) (drop (p + 87) file) ≡ dependency_sub_format_of j (drop at file)
  unfolding dependency_sub_format_of
  sub-format-is = part_at file at (568 + 344 * j + 87) 256 (p + 87) (omega arith)

  serial-is : take (p + 25 + 38 - (p + 25)) (drop (p + 25) file) ≡ dependency_serial_of j (drop at file)
  unfolding dependency_serial_of
  serial-is = part_at file at (568 + 344 * j + 25) 38 (p + 25) (omega arith)

  module _ (b : Bool) (e : b ≡ same (take (p + 87 + 256 - (p + 87)) (drop (p + 87) file)) relations_name) where
    named : same (dependency_sub_format_of j (drop at file)) relations_name ≡ b
    named = sym (e ∙ ap (λ (y : List ℕ). same y relations_name) sub-format-is)

    -- it names the sub-format
    pub unlisted : b ≡ true → false ≡ listed_in file (drop at file) j
    unfolding listed_in
    unlisted y = rw (named ∙ y)

    pub listed-is : b ≡ false → (f : Bool) → f ≡ finds_relations file (take (p + 25 + 38 - (p + 25)) (drop (p + 25) file))
        → not f ≡ listed_in file (drop at file) j
    unfolding listed_in
    listed-is n f is_found = rw (named ∙ n) (ap not (is_found ∙ ap (finds_relations file) serial-is))
