-- The row at which a cursor stands, and the relation chunk that holds among the rows so far.
--     row-there row_named named-row-at   what a cursor at a row says of the reading, and of its row
--     Dated dated                    where the row's writing date stands
--     holding-..                     the row that holds among no rows, and among one more
--     chosen_is                      among all rows
--     some-holds none-held none-holds row-holds   where one is found, and where none is; among all rows
--     latest-refused latest-checked latest-11 latest-13   the answers of the call, by those of the check of a row
-- Assumes nothing.
use Prim.Native.Nat.{ℕ, suc, ◌+◌, ◌≤◌, ◌<◌}
use mathlib.Core.Bool.{true, false}
use mathlib.Core.Path.{◌≡◌, refl, sym, ap, subst, ◌∙◌}
use mathlib.Core.List.{List, [], ◌∷◌}
use native.Mathlib.Numerals.{add-one}
use native.Mathlib.Omega.{arith}
use lib.Dec.{leb}
use lib.ListN.{length, drop}
use lib.Seq.{drop-drop}
use borrow.Author.Tests.{le-leb, lt-leb}
use Rattle.std.specs.Prelude.{Option, None, Some}
use Rattle.std.specs.declared.result.Result.TheVariants.{Ok, Err}
use Rattle.metafile.specs.declared.refusal.Refusal.{Refusal}
use Rattle.metafile.specs.declared.refusal.Refusal.TheVariants.{OverLimit, NoRow}
use Rattle.metafile.specs.Refusals.{number_of}
use Rattle.metafile.specs.Bytes.{part}
use Rattle.metafile.specs.Header.{is_llc, mark_of}
use Rattle.metafile.specs.Chunk.{chunk_end, closing_place}
use Rattle.metafile.specs.Closing.{closing_end}
use Rattle.metafile.specs.Reading.{rows_of}
use Rattle.metafile.specs.Calls.{contents_tests, chunk_of}
use Rattle.metafile.specs.Answers.{Answer, result, refused, over_limit, Outcome, outcome, count_answer, checked_answer}
use Rattle.metafile.specs.Relations.{is_relations, relations_check_tests, relations_check, writing_date_of, writing_day, latest_below, relations_row, with_row, relations_check_latest}
use Rattle.laws.proofs.Accepted.{refusal-first, refusal-next, tests-end, limit-under}
use Rattle.laws.proofs.Outcomes.{outcome-refused}
use Rattle.chunk.specs.declared.parts.Layout.{Layout}
use Rattle.walk.specs.declared.cursor.Cursor.{Cursor}
use Rattle.walk.specs.Walk.{chunk_at, serial_at}
use Rattle.walk.specs.Known.{Ended}
use Rattle.walk.proofs.Stages.{header_is}
use Rattle.walk.proofs.Loops.{layout-end, place-whole}
use Rattle.walk.proofs.Cursors.{There, goes-there}
use Rattle.walk.proofs.Ahead.{serial-place-is}
use Rattle.walk.proofs.Named.{tests-on, named-row, number_is, Named, named, named_small}
use Rattle.relations_check.specs.declared.latest.Latest.{Latest}
use Rattle.relations_check.specs.Latest.{AtRow, Holds, HoldsNone, Holding, Chosen}

-- ---- a cursor at a row

pub row-there : {file : List ℕ} {c : Cursor} → AtRow file c → There file c
row-there {file} {c} w = goes-there file c c.row w.is w.goes

pub row_named : {file : List ℕ} {c : Cursor} → AtRow file c → Named file c.row c
unfolding contents_tests
row_named {file} {c} w =
    let less = (row-there w).turn.row in
    let e = named-row file c.row w.small less w.is refl in
    named file c.row c e (number_is file c.row c e ∙ tests-on _ _ c.row [] (limit-under (length file) w.small) less ∙ tests-end)

pub named-row-at : {file : List ℕ} {k : ℕ} {c : Cursor} → Named file k c → AtRow file c
named-row-at w = record { is = w.is; goes = w.goes; small = named_small w }

-- the writing date of a row stands at the place p
pub record Dated (file : List ℕ) (k p : ℕ) : Type 0 where
  pub is : writing_date_of (mark_of file) (chunk_of file k) ≡ part p 8 file
  pub inside : p + 8 ≤ length file

pub dated : {file : List ℕ} {c : Cursor} → AtRow file c
    → Dated file c.row (c.at + c.layout.contents + c.layout.bytes + c.header.mark + 163)
unfolding writing_date_of chunk_of chunk_at serial_at chunk_end closing_end
dated {file} {c} w =
    let t = row-there w in
    let m = mark_of file in
    let s = drop c.at file in
    let h = header_is c.header file t.behind.header_is t.behind.whole in
    let p = c.at + c.layout.contents + c.layout.bytes + c.header.mark + 163 in
    let serial = serial-place-is file t.begun c.at c.layout t.turn.layout_is t.turn.whole c.header.mark h.mark-is in
    let place : p ≡ c.at + (closing_place m s + length m + 163) = omega (arith, serial) in
    let whole = place-whole file t.begun c.row c.at t.turn.row t.behind.place_is in
    let end : c.layout.end ≡ closing_place m s + length m + 254 + length m =
    ap (λ (l : Layout). l.end) t.turn.layout_is ∙ layout-end (is_llc file) m s whole in
    record {
      is = rw (← (row_named w).place_is, place, drop-drop (closing_place m s + length m + 163) c.at file);
      inside = omega (arith, place, end, t.turn.inside);
    }

-- ---- the rows so far

module _ (file : List ℕ) where
  pub holding-none : HoldsNone file 0
  unfolding latest_below
  holding-none = record { day-is = refl; none = refl }

  -- row n holds from then on
  holds-row : (n : ℕ) → is_relations (chunk_of file n) ≡ true → leb (latest_below file n).day (writing_day file n) ≡ true
      → (l : Latest) → l.day ≡ writing_day file n → AtRow file l.own → l.own.row ≡ n → Holds file (n + 1) l
  unfolding latest_below
  holds-row n r later l e a k =
      rw (add-one n) (record { day-is = rw (r, later) e; at_row = a; relations = rw k r; row_is = rw (r, later) k })

  module _ (n : ℕ) where
    pub holding-passed : (l : Option Latest) → Holding file n l → is_relations (chunk_of file n) ≡ false → Holding file (n + 1) l
    unfolding latest_below
    holding-passed None w r = rw (add-one n) (record { day-is = rw r w.day-is; none = rw r w.none })
    holding-passed (Some l) w r =
        rw (add-one n) (record { day-is = rw r w.day-is; at_row = w.at_row; relations = w.relations; row_is = rw r w.row_is })

    module _ (r : is_relations (chunk_of file n) ≡ true) (l : Latest) (is : l.day ≡ writing_day file n) where
      pub holding-first : HoldsNone file n → AtRow file l.own → l.own.row ≡ n → Holds file (n + 1) l
      holding-first w = holds-row n r (le-leb (latest_below file n).day (writing_day file n) (omega (arith, w.day-is))) l is

      pub holding-later : (other : Latest) → Holds file n other → other.day ≤ l.day → AtRow file l.own → l.own.row ≡ n → Holds file (n + 1) l
      holding-later other w h =
          holds-row n r (le-leb (latest_below file n).day (writing_day file n) (omega (arith, is, w.day-is))) l is

    pub holding-earlier : (r : is_relations (chunk_of file n) ≡ true) (day : ℕ) → day ≡ writing_day file n
        → (other : Latest) → Holds file n other → day < other.day → Holds file (n + 1) other
    unfolding latest_below
    holding-earlier r day is other w h =
        let earlier = lt-leb (latest_below file n).day (writing_day file n) (omega (arith, is, w.day-is)) in
        rw (add-one n)
        (record { day-is = rw (r, earlier) w.day-is; at_row = w.at_row; relations = w.relations; row_is = rw (r, earlier) w.row_is })

  pub chosen_is : (n : ℕ) (l : Option Latest) → Holding file n l → (end : Cursor) → Ended file end → end.row ≡ n → Chosen file end l
  chosen_is n l w end ended e =
      record { ended = ended; holding = subst (λ (m : ℕ). Holding file m l) (sym e ∙ ended.count) w }

  -- where one is found, and where none is
  pub some-holds : (n : ℕ) (best : Option Latest) (l : Latest) → best ≡ Some l → Holding file n best → Holds file n l
  some-holds n best l e w = subst (Holding file n) e w

  pub none-held : (n : ℕ) (best : Option Latest) → best ≡ None → Holding file n best → HoldsNone file n
  none-held n best e w = subst (Holding file n) e w

  -- by all rows
  pub none-holds : HoldsNone file (length (rows_of file)) → relations_row file ≡ length (rows_of file)
  unfolding relations_row
  none-holds w = w.none

  pub row-holds : (l : Latest) → Holds file (length (rows_of file)) l → l.own.row ≡ relations_row file
  unfolding relations_row
  row-holds l w = w.row_is

-- ---- the call

module _ (file list : List ℕ) where
  latest-by : (k : ℕ) → k ≡ relations_row file → (a : Answer) (after : List ℕ) → outcome a after ≡ relations_check file k list
      → outcome (with_row k a) after ≡ relations_check_latest file list
  unfolding relations_check_latest
  latest-by k e a after is = rw e (ap (λ (o : Outcome). outcome (with_row (relations_row file) o.answer) o.buffer) (rw e at is))

  -- refused as the check of that row
  pub latest-refused : (r : Refusal) (k : ℕ) → k ≡ relations_row file → (after : List ℕ) → outcome (count_answer (Err r)) after ≡ relations_check file k list
      → outcome (checked_answer (Err r)) after ≡ relations_check_latest file list
  unfolding count_answer checked_answer with_row
  latest-refused r k e after is = latest-by k e (refused (number_of r)) after is

  pub latest-checked : (n k : ℕ) → k ≡ relations_row file → (after : List ℕ) → outcome (count_answer (Ok n)) after ≡ relations_check file k list
      → outcome (checked_answer (Ok (record { count = n; row = k }))) after ≡ relations_check_latest file list
  unfolding count_answer checked_answer with_row
  latest-checked n k e after is = latest-by k e (result (n ∷ [])) after is

  pub latest-11 : over_limit (length file ∷ []) ≡ true → outcome (checked_answer (Err OverLimit)) list ≡ relations_check_latest file list
  unfolding relations_check relations_check_tests count_answer
  latest-11 h = latest-refused OverLimit (relations_row file) refl list (outcome-refused _ list _ 11 (sym (refusal-first 11 _ _ h)) (λ q. omega arith))

  pub latest-13 : over_limit (length file ∷ []) ≡ false → HoldsNone file (length (rows_of file))
      → outcome (checked_answer (Err NoRow)) list ≡ relations_check_latest file list
  unfolding relations_check relations_check_tests count_answer
  latest-13 h w =
      let none = none-holds file w in
      latest-refused NoRow (relations_row file) refl list
      (outcome-refused _ list _ 13
      (sym (refusal-next 11 _ _ h ∙ refusal-first 13 _ _ (le-leb (length (rows_of file)) (relations_row file) (omega (arith, none))))) (λ q. omega arith))
