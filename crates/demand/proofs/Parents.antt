-- Parents after a cut. The rows of what is left are the old ones and perhaps more behind them; the old chunks stand
-- where they stood. So an old dependency that was found is found at the same row with the same agreement, and one that
-- was missing is found, if at all, at a row behind the old ones. Row serials are distinct, so each dependency of the
-- new row is answered with the row named as its parent.
--     row_same chunk-same                    old rows and their chunks
--     found-kept missing-late missing-kept   old dependencies
--     new-last new-chunk new-parents         the new row, its chunk, and its dependencies
-- Assumes nothing.
use Prim.Native.Nat.{ℕ, zero, suc, ◌^◌, ◌≤◌, ◌<◌}
use mathlib.Core.Bool.{true}
use mathlib.Core.Path.{◌≡◌, sym, ◌∙◌}
use mathlib.Core.Logic.{◌⊎◌, inl, inr}
use mathlib.Core.List.{List, [], ◌∷◌, ◌++◌}
use native.Mathlib.Omega.{arith}
use lib.Dec.{ltb}
use lib.ListN.{length, get_or, length-append, get_or-append}
use lib.Seq.{drop-append-le, drop-append_seam, get_or-append_seam}
use borrow.Author.Tests.{ltb-true}
use Rattle.metafile.specs.declared.Row.{Row}
use Rattle.metafile.specs.Header.{is_llc, mark_of}
use Rattle.metafile.specs.Chunk.{dependency_serial_of}
use Rattle.metafile.specs.Reading.{rows_of}
use Rattle.metafile.specs.Answers.{result, flag}
use Rattle.metafile.specs.Append.{Given, row_no, sub_format_of, all_below}
use Rattle.metafile.specs.Calls.{row_with, chunk_of, parent_row, agree, parent}
use Rattle.metafile.specs.Demand.{new_row}
use Rattle.laws.proofs.First.{and_both}
use Rattle.laws.proofs.Lists.{same_refl}
use Rattle.chunk_laws.proofs.Local.{sub_format-local, dependency_serial-local, dependency_sub_format-local}
use Rattle.chunk_laws.proofs.Dependencies.{chunk_whole, place_inside, j-there}
use Rattle.chunk_laws.proofs.Serials.{file-fresh, row_with-found, row_with-missing, row_with-self}
use Rattle.written_laws.specs.Taken.{Taken}
use Rattle.written_laws.proofs.Stretches.{chunk_bytes}
use Rattle.written_laws.proofs.Handed.{dependency_serial-at, dependency_sub_format-at}
use Rattle.demand.proofs.Asked.{answer_to, Asked, parent-asked, asked-parent, answer-found, answer-missing, answer-cases, none≢some}

-- ---- more bytes and more rows behind

row_no-append : (rs us : List Row) (k : ℕ) → k < length rs → row_no (rs ++ us) k ≡ row_no rs k
unfolding row_no
row_no-append rs us k h = get_or-append rs us _ k h

module _ (old t : List ℕ) (us : List Row) (is : rows_of (old ++ t) ≡ rows_of old ++ us) (small : length (old ++ t) ≤ 2 ^ 30) where
  module _ (k : ℕ) (h : k < length (rows_of old)) where
    pub row_same : row_no (rows_of (old ++ t)) k ≡ row_no (rows_of old) k
    row_same = rw is (row_no-append (rows_of old) us k h)

    pub chunk-same : chunk_of (old ++ t) k ≡ chunk_of old k ++ t
    unfolding chunk_of
    chunk-same = rw row_same (drop-append-le (row_no (rows_of old) k).place old t (place_inside old k h))

    sub_format-same : sub_format_of (old ++ t) (row_no (rows_of (old ++ t)) k) ≡ sub_format_of old (row_no (rows_of old) k)
    unfolding sub_format_of chunk_of
    sub_format-same =
        rw (row_same, drop-append-le (row_no (rows_of old) k).place old t (place_inside old k h))
        (sub_format-local (is_llc old) (mark_of old) (chunk_of old k) t (chunk_whole old k h))

    module _ (j : ℕ) (d : j < (row_no (rows_of old) k).dependencies) where
      row-in-more : parent_row (old ++ t) k j ≡ row_with (dependency_serial_of j (chunk_of old k)) (rows_of old ++ us)
      unfolding parent_row
      row-in-more =
          let w = chunk_whole old k h in
          rw (chunk-same, is, dependency_serial-local (is_llc old) (mark_of old) (chunk_of old k) t w j (j-there old k h j d))

  asked-more : (k j : ℕ) → Asked old k j → Asked (old ++ t) k j
  asked-more k j q =
      record {
        row-there = rw is (simp length-append (omega (arith, q.row-there)));
        dependency-there = rw (row_same k q.row-there) q.dependency-there;
      }

  -- ---- old dependencies

  module _ (k j : ℕ) (q : Asked old k j) where
    row_kept : parent_row old k j < length (rows_of old) → parent_row (old ++ t) k j ≡ parent_row old k j
    unfolding parent_row
    row_kept f = row-in-more k q.row-there j q.dependency-there ∙ row_with-found _ (rows_of old) us f

    row-behind : length (rows_of old) ≤ parent_row old k j → length (rows_of old) ≤ parent_row (old ++ t) k j
    unfolding parent_row
    row-behind f = rw (row-in-more k q.row-there j q.dependency-there) (row_with-missing _ (rows_of old) us f)

    agree-kept : parent_row old k j < length (rows_of old) → agree (old ++ t) k j ≡ agree old k j
    unfolding agree
    agree-kept f =
        let w = chunk_whole old k q.row-there in
        rw (
          row_kept f,
          sub_format-same (parent_row old k j) f,
          chunk-same k q.row-there,
          dependency_sub_format-local (is_llc old) (mark_of old) (chunk_of old k) t w j (j-there old k q.row-there j q.dependency-there),
        )

    was-missing : answer_to old k j ≡ result [] → length (rows_of old) ≤ parent_row old k j
    was-missing e =
        answer-cases old k j
        (λ f. none≢some _ _ (sym e ∙ answer-found old k j f))
        (λ f. f)

  pub found-kept : (k j i b : ℕ) → parent old k j ≡ result (i ∷ b ∷ []) → parent (old ++ t) k j ≡ result (i ∷ b ∷ [])
  found-kept k j i b e =
      let h = asked-parent old k j (i ∷ b ∷ []) e in
      let q = h.0 in
      answer-cases old k j
      (λ f.
      let inside : parent_row (old ++ t) k j < length (rows_of (old ++ t)) = rw (row_kept k j q f, is) (simp length-append (omega arith)) in
      parent-asked (old ++ t) k j small (asked-more k j q)
      ∙ answer-found (old ++ t) k j inside
      ∙ rw (row_kept k j q f, agree-kept k j q f) (sym (answer-found old k j f) ∙ h.1))
      (λ f. none≢some i (b ∷ []) (sym (answer-missing old k j f) ∙ h.1))

  -- at most one row behind the old ones
  pub missing-late : length us ≤ 1 → (k j : ℕ) → parent old k j ≡ result []
      → (parent (old ++ t) k j ≡ result []) ⊎ ((b : ℕ) × (parent (old ++ t) k j ≡ result (length (rows_of old) ∷ b ∷ [])))
  missing-late one k j e =
      let h = asked-parent old k j [] e in
      let q = h.0 in
      let now = parent-asked (old ++ t) k j small (asked-more k j q) in
      let behind = row-behind k j q (was-missing k j q h.1) in
      answer-cases (old ++ t) k j
      (λ f.
      let many = simp (is, length-append) at f in
      let row_is : parent_row (old ++ t) k j ≡ length (rows_of old) = omega arith in
      inr (flag (agree (old ++ t) k j), now ∙ answer-found (old ++ t) k j f ∙ rw row_is))
      (λ f. inl (now ∙ answer-missing (old ++ t) k j f))

  pub missing-kept : length us ≡ 0 → (k j : ℕ) → parent old k j ≡ result [] → parent (old ++ t) k j ≡ result []
  missing-kept none k j e =
      let h = asked-parent old k j [] e in
      let q = h.0 in
      let behind = row-behind k j q (was-missing k j q h.1) in
      let past_all : length (rows_of (old ++ t)) ≤ parent_row (old ++ t) k j = rw is (simp length-append (omega arith)) in
      parent-asked (old ++ t) k j small (asked-more k j q) ∙ answer-missing (old ++ t) k j past_all

-- ---- the new row's dependencies

below_at : (n : ℕ) (ks : List ℕ) (j : ℕ) → j < length ks → all_below n ks ≡ true → get_or ks j 0 < n
unfolding all_below
below_at n [] j h e = absurd (omega arith)
below_at n (k ∷ ks) zero h e = ltb-true k n (and_both (ltb k n) (all_below n ks) e).0
below_at n (k ∷ ks) (suc j) h e = below_at n ks j (omega arith) (and_both (ltb k n) (all_below n ks) e).1

module _ (old : List ℕ) (g : Given) (a : Taken old g) (e₁ e₃ : ℕ) (is : rows_of (old ++ chunk_bytes old g) ≡ rows_of old ++ new_row old g e₁ e₃ ∷ [])
    (small : length (old ++ chunk_bytes old g) ≤ 2 ^ 30) where
  pub new-last : row_no (rows_of (old ++ chunk_bytes old g)) (length (rows_of old)) ≡ new_row old g e₁ e₃
  unfolding row_no
  new-last = rw is (get_or-append_seam (rows_of old) (new_row old g e₁ e₃) [] _)

  pub new-chunk : chunk_of (old ++ chunk_bytes old g) (length (rows_of old)) ≡ chunk_bytes old g
  unfolding chunk_of new_row
  new-chunk = rw new-last (drop-append_seam old (chunk_bytes old g))

  module _ (j : ℕ) (h : j < length g.parents) where
    pub named-below : get_or g.parents j 0 < length (rows_of old)
    named-below = below_at (length (rows_of old)) g.parents j h a.parents-below

    pub new-parent_row : parent_row (old ++ chunk_bytes old g) (length (rows_of old)) j ≡ get_or g.parents j 0
    unfolding parent_row
    new-parent_row =
        let self = row_with-self (rows_of old) [] (get_or g.parents j 0) named-below (file-fresh old) in
        rw (new-chunk, is, dependency_serial-at old g a j h)
        (row_with-found _ (rows_of old) (new_row old g e₁ e₃ ∷ []) (omega (arith, self, named-below)) ∙ self)

    new-agree : agree (old ++ chunk_bytes old g) (length (rows_of old)) j ≡ true
    unfolding agree
    new-agree =
        rw (new-parent_row, new-chunk, dependency_sub_format-at old g a j h, sub_format-same old (chunk_bytes old g) (new_row old g e₁ e₃ ∷ []) is small (get_or g.parents j 0) named-below)
        (same_refl _)

    new-asked : Asked (old ++ chunk_bytes old g) (length (rows_of old)) j
    unfolding new_row
    new-asked = record { row-there = rw is (simp length-append (omega arith)); dependency-there = rw new-last h }

    pub new-parents : parent (old ++ chunk_bytes old g) (length (rows_of old)) j ≡ result (get_or g.parents j 0 ∷ 1 ∷ [])
    unfolding flag
    new-parents =
        let inside : parent_row (old ++ chunk_bytes old g) (length (rows_of old)) j < length (rows_of (old ++ chunk_bytes old g)) =
        rw (new-parent_row, is) (simp length-append (omega (arith, named-below))) in
        parent-asked (old ++ chunk_bytes old g) (length (rows_of old)) j small new-asked
        ∙ answer-found (old ++ chunk_bytes old g) (length (rows_of old)) j inside
        ∙ rw (new-parent_row, new-agree)
