-- The rows that are marked (specs/Lists), row by row: the listed ones counted and put into a list, and their missing parents
-- added up.
--     marked-is                       a mark that is compared with Done
--     listed-count                    how many are listed
--     listed-room listed-out put_in   one row more in the list
--     marked-next marked-most         one row more in the sum
-- Assumes nothing.
use Rattle.std.proofs.Common.{ℕ, zero, suc, ◌+◌, ◌≤◌, ◌<◌, ◌≡◌, Bool, true, false, cond, List, [], ◌∷◌, ◌++◌, length, get_or, take, set, map, filter, refl, sym, ap, ◌∙◌, arith, add-one, length-append, append-nil}
use Rattle.std.proofs.Math.Seq.{take-append_seam, take-append-add, get_or-append_seam}
use Rattle.std.proofs.lemmas.List.{map-id}
use Rattle.std.proofs.lemmas.List.FromFn.{filter_of_map_range_with_len_more}
use Rattle.std.proofs.lemmas.List.Sums.{length-filter}
use Rattle.std.specs.List.{range_with_len, count_by}
use Rattle.metafile.specs.Below.{join_below}
use Rattle.metafile.specs.Answers.{placed}
use Rattle.laws.proofs.Below.{join_more, join-long, sum_more, sum-part, sum-most}
use Rattle.laws.proofs.Loops.{put-more}
use denote.Enum.Bare.{sameb}
use Rattle.graph.specs.contracts.Mark.{the_type}
use Rattle.graph.specs.declared.Mark.{Mark}
use Rattle.graph.specs.declared.Mark.TheVariants.{Unvisited, OnPath, Done}
use Rattle.graph.specs.Graph.{mark, is_done}
use Rattle.ancestors.specs.declared.rows.NotedRow.{NotedRow}
use Rattle.ancestors.specs.Noted.{noted_no}
use Rattle.ancestors.specs.Lists.{is_marked, is_listed, listed_rows, marked_sum, Small}

same_done : (x : Mark) → sameb the_type x Done ≡ is_done x
unfolding is_done
same_done Unvisited = refl
same_done OnPath = refl
same_done Done = refl

-- a mark that is compared with Done
pub marked-is : (b : Bool) (marks : List Mark) (i : ℕ) → b ≡ sameb the_type (mark marks i) Done → b ≡ is_marked marks i
unfolding is_marked
marked-is b marks i e = e ∙ same_done (mark marks i)

-- ---- the rows listed

module _ (marks : List Mark) (row : ℕ) where
  listed-filter : (n : ℕ) → listed_rows marks row n ≡ filter (is_listed marks row) (map (λ i. i) (range_with_len 0 n))
  unfolding listed_rows join_below
  listed-filter zero = refl
  listed-filter (suc n) =
      ap (λ (v : List ℕ). v ++ cond (is_listed marks row n) (n ∷ []) []) (listed-filter n)
      ∙ sym (rw add-one at (filter_of_map_range_with_len_more (is_listed marks row) (λ i. i) 0 n n (omega arith)))

  pub listed-count : (n : ℕ) → count_by (is_listed marks row) (range_with_len 0 n) ≡ length (listed_rows marks row n)
  listed-count n = sym (ap length (listed-filter n) ∙ rw (map-id (range_with_len 0 n)) (length-filter (is_listed marks row) (range_with_len 0 n)))

  pub listed-none : listed_rows marks row 0 ≡ []
  unfolding listed_rows join_below
  listed-none = refl

  listed_in : (i : ℕ) → is_listed marks row i ≡ true → listed_rows marks row (i + 1) ≡ listed_rows marks row i ++ (i ∷ [])
  unfolding listed_rows
  listed_in i e = join_more i _ ∙ rw e

  pub listed-out : (i : ℕ) → is_listed marks row i ≡ false → listed_rows marks row (i + 1) ≡ listed_rows marks row i
  unfolding listed_rows
  listed-out i e = join_more i _ ∙ rw (e, append-nil)

  -- a row that is listed is one of those in the whole list
  pub listed-room : (i n : ℕ) → i < n → is_listed marks row i ≡ true → length (listed_rows marks row i) < length (listed_rows marks row n)
  unfolding listed_rows
  listed-room i n h e =
      let f : ℕ → List ℕ = λ (k : ℕ). cond (is_listed marks row k) (k ∷ []) [] in
      let one : length (f i) ≡ 1 = rw e in
      omega (arith, join-long i f, join-long n f, sum-part (λ (k : ℕ). length (f k)) i n h)

  pub listed-more : (i : ℕ) → is_listed marks row i ≡ true → length (listed_rows marks row (i + 1)) ≡ length (listed_rows marks row i) + 1
  listed-more i e = ap length (listed_in i e) ∙ length-append (listed_rows marks row i) (i ∷ [])

  pub put_in : (list : List ℕ) (i n q : ℕ) → i < n → is_listed marks row i ≡ true → length (listed_rows marks row n) ≤ length list
      → q ≡ length (listed_rows marks row i) → set (placed 0 (listed_rows marks row i) list) q i ≡ placed 0 (listed_rows marks row (i + 1)) list
  put_in list i n q h e room at =
      let v = listed_rows marks row i in
      let w = v ++ (i ∷ []) in
      let long : length w ≡ length v + 1 = length-append v (i ∷ []) in
      let less = listed-room i n h e in
      let fits : 0 + length w ≤ length list = omega (arith, long, less) in
      let inside : length v < length w = omega (arith, long) in
      let put = put-more 0 (length v) w list fits inside in
      let first : take (length v) w ≡ v = take-append_seam v (i ∷ []) in
      let own : get_or w (length v) 0 ≡ i = get_or-append_seam v i [] 0 in
      let all : take (length v + 1) w ≡ w = take-append-add v (i ∷ []) 1 in
      let zero : 0 + length v ≡ length v = omega arith in
      rw (at, listed_in i e) (rw (first, own, all, zero) at put)

-- ---- numbers added up

module _ (marks : List Mark) (rows : List NotedRow) where
  marked-more : (i : ℕ) → marked_sum marks rows (i + 1) ≡ marked_sum marks rows i + cond (is_marked marks i) (noted_no rows i).missing 0
  unfolding marked_sum
  marked-more i = sum_more i _

  -- the mark of row i, compared with Done, and the row as it is noted
  pub marked-next : (i : ℕ) (b : Bool) (x : Mark) (r : NotedRow) → b ≡ sameb the_type x Done → x ≡ mark marks i → r ≡ noted_no rows i
      → marked_sum marks rows (i + 1) ≡ marked_sum marks rows i + cond b r.missing 0
  marked-next i b x r e m n = marked-more i ∙ rw (← n, ← marked-is b marks i (rw m at e)) refl

  -- of at most 64 rows
  pub marked-most : {m : ℕ} → Small m rows → (n : ℕ) → n ≤ m → marked_sum marks rows n ≤ 68719476736
  unfolding marked_sum
  marked-most s n h =
      let f : ℕ → ℕ = λ (i : ℕ). cond (is_marked marks i) (noted_no rows i).missing 0 in
      let each : (i : ℕ) → i < n → f i ≤ 1073741824 = λ i k. part (is_marked marks i) (s.small i (omega arith)) in
      omega (arith, sum-most f 1073741824 n each, s.few)
    where
      part : (b : Bool) {x : ℕ} → x ≤ 1073741824 → cond b x 0 ≤ 1073741824
      part true h = h
      part false h = omega arith
