-- The text written for a file and appended to it, under the relation chunk's sub-format.
--     fields-same still-declared   with rows behind the old ones, the fields of an old dependency's line are the same, and are
--                                  declared
--     still-checked                so every line written for the old file is
--     appended                     the check of the appended chunk gives a verdict for each line written, declared, and leaves
--                                  the rest of the list
--     relations-same day-same      with more behind, an old row is a relations row as before, of the same day
--     appended-row                 written on no earlier day than the relations rows before it, the appended chunk holds
--     appended-latest              and is the one checked where no row is named
-- Assumes nothing.
use Prim.Native.Nat.{ℕ, suc, ◌^◌, ◌≤◌, ◌<◌}
use mathlib.Core.Bool.{true}
use mathlib.Core.Path.{◌≡◌, sym, ap, ◌∙◌}
use mathlib.Core.List.{List, [], ◌∷◌, ◌++◌}
use native.Mathlib.Nat.{zero-add}
use native.Mathlib.Omega.{arith}
use lib.ListN.{length, take, drop, replicate, length-append, length-replicate}
use borrow.Author.Tests.{lt-leb, le-ltb}
use Rattle.metafile.specs.declared.Row.{Row}
use Rattle.metafile.specs.Days.{day_number}
use Rattle.metafile.specs.Lines.{first_of}
use Rattle.metafile.specs.Header.{is_llc, mark_of}
use Rattle.metafile.specs.Reading.{Reading, reading, rows_of}
use Rattle.metafile.specs.Answers.{result, first_refusal, placed}
use Rattle.metafile.specs.Append.{Given, sub_format_given, row_no}
use Rattle.metafile.specs.Calls.{chunk_of, row_contents}
use Rattle.metafile.specs.Demand.{Accepted, finished, new_row, HandedIn}
use Rattle.metafile.specs.Relations.{relations_name, is_relations, split_on, heading, relation_lines, relations_text, is_declared, declared, verdicts, contents_lines, relations_check_tests, relations_check, writing_day, relations_row, with_row, relations_check_latest}
use Rattle.laws.proofs.Lists.{same_refl}
use Rattle.laws.proofs.Dates.{day-is}
use Rattle.laws.proofs.Below.{Every}
use Rattle.laws.proofs.Accepted.{refusal-next, tests-end, limit-under}
use Rattle.laws.proofs.Outcomes.{outcome-done}
use Rattle.chunk_laws.proofs.File.{HeaderWhole, header-whole, clean-begun, mark_of-local}
use Rattle.chunk_laws.proofs.Places.{writing-dated}
use Rattle.chunk_laws.proofs.Local.{sub_format-local, writing_date-local, dependency_serial-local, dependency_sub_format-local}
use Rattle.chunk_laws.proofs.Dependencies.{chunk_whole, j-there}
use Rattle.written_laws.specs.Taken.{Taken}
use Rattle.written_laws.proofs.Taken.{accepted}
use Rattle.written_laws.proofs.Stretches.{chunk_bytes}
use Rattle.written_laws.proofs.Finished.{finished-whole, finished-date}
use Rattle.demand.proofs.Buffer.{finished-is}
use Rattle.demand.proofs.Parents.{row_same, chunk-same, new-last, new-chunk}
use Rattle.demand.proofs.Theorem.{small-enough}
use Rattle.demand.proofs.RoundTrip.{round_trip}
use Rattle.relation_laws.proofs.Latest.{Holds, below_suc, latest-unique}
use Rattle.relation_laws.proofs.Written.{line_fields, Declared, line-declared, line-verdict, every-line, text-lines, text-verdicts}

-- ---- more rows behind

module _ (old t : List ℕ) (us : List Row) (is : rows_of (old ++ t) ≡ rows_of old ++ us)
    (small : length (old ++ t) ≤ 2 ^ 30) where
  module _ (k : ℕ) (h : k < length (rows_of old)) (j : ℕ) (d : j < (row_no (rows_of old) k).dependencies) where
    pub fields-same : line_fields (old ++ t) k j ≡ line_fields old k j
    unfolding line_fields
    fields-same =
        let w = chunk_whole old k h in
        let there = j-there old k h j d in
        rw (
          row_same old t us is small k h,
          chunk-same old t us is small k h,
          sub_format-local (is_llc old) (mark_of old) (chunk_of old k) t w,
          dependency_serial-local (is_llc old) (mark_of old) (chunk_of old k) t w j there,
          dependency_sub_format-local (is_llc old) (mark_of old) (chunk_of old k) t w j there,
        )

    pub still-declared : is_declared (old ++ t) (line_fields old k j) ≡ true
    still-declared =
        let inside : k < length (rows_of (old ++ t)) = rw is (simp length-append (omega arith)) in
        let there : j < (row_no (rows_of (old ++ t)) k).dependencies = rw (row_same old t us is small k h) d in
        rw (← fields-same) (line-declared (old ++ t) k inside j there)

  pub still-checked : Every (Declared (is_declared (old ++ t))) (relation_lines old)
  still-checked = every-line old _ (λ k h j d. line-verdict old k h j d (is_declared (old ++ t)) (still-declared k h j d))

  module _ (k : ℕ) (h : k < length (rows_of old)) where
    pub relations-same : is_relations (chunk_of (old ++ t) k) ≡ is_relations (chunk_of old k)
    unfolding is_relations
    relations-same =
        rw (
          chunk-same old t us is small k h,
          sub_format-local (is_llc old) (mark_of old) (chunk_of old k) t (chunk_whole old k h),
        )

    pub day-same : HeaderWhole old → writing_day (old ++ t) k ≡ writing_day old k
    unfolding writing_day
    day-same header =
        rw (
          mark_of-local old t header,
          chunk-same old t us is small k h,
          writing_date-local (is_llc old) (mark_of old) (chunk_of old k) t (chunk_whole old k h),
        )

-- ---- the new row

abbrev new_file : List ℕ → Given → List ℕ
new_file old g = old ++ chunk_bytes old g

-- no relations row was written on a later day than the one given
abbrev pub NotLater : List ℕ → Given → Type 0
NotLater old g =
    (j : ℕ) → j < length (rows_of old) → is_relations (chunk_of old j) ≡ true → writing_day old j ≤ day_number g.description.written

module _ (old : List ℕ) (g : Given) (a : Taken old g) (e₁ e₂ e₃ : ℕ)
    (is : rows_of (new_file old g) ≡ rows_of old ++ new_row old g e₁ e₃ ∷ [])
    (small : length (new_file old g) ≤ 2 ^ 30)
    (handed : HandedIn old g e₁ e₂ (new_file old g) (drop (length old) (new_file old g)))
    (name-given : sub_format_given g.description ≡ relations_name) where
  new-name : is_relations (chunk_of (new_file old g) (length (rows_of old))) ≡ true
  unfolding is_relations chunk_of new_row
  new-name = rw (new-last old g a e₁ e₃ is small, handed.sub-format, name-given) (same_refl relations_name)

  -- ---- which row holds

  header : HeaderWhole old
  header = header-whole old (clean-begun (length old) old a.some_bytes (unfold reading in a.number-zero))

  new-day : writing_day (new_file old g) (length (rows_of old)) ≡ day_number g.description.written
  unfolding writing_day
  new-day =
      let dated = writing-dated (is_llc old) (mark_of old) (chunk_bytes old g) (finished-whole old g a) in
      rw (mark_of-local old (chunk_bytes old g) header, new-chunk old g a e₁ e₃ is small, finished-date old g a)
      (day-is _ (rw (finished-date old g a) at dated))

  new-holds : NotLater old g → Holds (new_file old g) (length (rows_of (new_file old g))) (length (rows_of old))
  new-holds early =
      let count : length (rows_of (new_file old g)) ≡ suc (length (rows_of old)) = rw is (simp length-append (omega arith)) in
      let old-day : (j : ℕ) → j < length (rows_of old) → is_relations (chunk_of (new_file old g) j) ≡ true
      → writing_day (new_file old g) j ≤ writing_day (new_file old g) (length (rows_of old)) =
      λ j b r.
      rw (day-same old (chunk_bytes old g) _ is small j b header, new-day)
      (early j b (rw (relations-same old (chunk_bytes old g) _ is small j b) at r)) in
      rw count
      (record {
        inside = omega arith;
        relations = new-name;
        latest = λ j b r. below_suc (length (rows_of old)) j b (λ q. old-day j q r) (λ q. rw q (omega arith));
        last = λ j b r o. absurd (omega arith);
      })

  -- ---- its check

  module _ (text-given : g.contents ≡ relations_text old) where
    new-contents : row_contents (new_file old g) (row_no (rows_of (new_file old g)) (length (rows_of old))) ≡ relations_text old
    unfolding row_contents new_row
    new-contents = rw (new-last old g a e₁ e₃ is small) (handed.contents ∙ text-given)

    new-lines : contents_lines (new_file old g) (length (rows_of old)) ≡ split_on 10 (relations_text old)
    unfolding contents_lines
    new-lines = ap (split_on 10) new-contents

    new-verdicts : verdicts (new_file old g) (contents_lines (new_file old g) (length (rows_of old)))
        ≡ replicate (length (relation_lines old)) declared
    unfolding verdicts
    new-verdicts =
        rw new-lines (text-verdicts old (is_declared (new_file old g)) (still-checked old (chunk_bytes old g) _ is small))

    module _ (list : List ℕ) (room : length (relation_lines old) ≤ length list) where
      none-refuses : first_refusal (relations_check_tests (new_file old g) (length (rows_of old)) list) ≡ 0
      unfolding relations_check_tests first_of
      none-refuses =
          let inside : length (rows_of old) < length (rows_of (new_file old g)) = rw is (simp length-append (omega arith)) in
          let first-is : first_of (contents_lines (new_file old g) (length (rows_of old))) ≡ heading = rw (new-lines, text-lines old) in
          let room-is : length (verdicts (new_file old g) (contents_lines (new_file old g) (length (rows_of old)))) ≤ length list =
          rw new-verdicts (simp length-replicate room) in
          refusal-next 11 _ _ (limit-under (length (new_file old g)) small)
          ∙ refusal-next 13 _ _ (lt-leb _ _ inside)
          ∙ refusal-next 19 _ _ (rw new-name)
          ∙ refusal-next 20 _ _ (rw (first-is, same_refl heading))
          ∙ refusal-next 18 _ _ (le-ltb _ _ room-is)
          ∙ tests-end

      new-checked : relations_check (new_file old g) (length (rows_of old)) list
          ≡ record {
            answer = result (length (relation_lines old) ∷ []);
            buffer = replicate (length (relation_lines old)) declared ++ drop (length (relation_lines old)) list;
          }
      unfolding relations_check placed
      new-checked =
          sym (outcome-done _ list _ none-refuses)
          ∙ rw (
            new-verdicts,
            length-replicate {A = ℕ} (length (relation_lines old)) declared,
            zero-add (length (relation_lines old)),
          )

-- ---- after an accepted append

-- what an accepted append leaves, as the laws above take it
record Finished (old : List ℕ) (g : Given) (e₁ e₂ e₃ : ℕ) (file : List ℕ) : Type 0 where
  taken : Taken old g
  file-is : file ≡ new_file old g
  rows : rows_of (new_file old g) ≡ rows_of old ++ new_row old g e₁ e₃ ∷ []
  small : length (new_file old g) ≤ 2 ^ 30
  handed : HandedIn old g e₁ e₂ (new_file old g) (drop (length old) (new_file old g))

finished-file : (buffer : List ℕ) (len : ℕ) (g : Given) (e₁ e₂ e₃ : ℕ) → Accepted buffer len g e₁ e₂ e₃
    → Finished (take len buffer) g e₁ e₂ e₃ (finished buffer len g e₃)
unfolding rows_of
finished-file buffer len g e₁ e₂ e₃ e =
    let d = accepted buffer len g e₁ e₂ e₃ e in
    let r = round_trip buffer len g e₁ e₂ e₃ e in
    let done-is = finished-is buffer len g e₁ e₂ e₃ d in
    record {
      taken = d.is-taken;
      file-is = done-is;
      rows = ap (λ (x : Reading). x.rows) (rw done-is at r.read_back);
      small = small-enough buffer len g e₁ e₂ e₃ d;
      handed = rw done-is at r.as-handed-in;
    }

pub appended : (buffer : List ℕ) (len : ℕ) (g : Given) (e₁ e₂ e₃ : ℕ) → Accepted buffer len g e₁ e₂ e₃
    → g.contents ≡ relations_text (take len buffer) → sub_format_given g.description ≡ relations_name
    → (list : List ℕ) → length (relation_lines (take len buffer)) ≤ length list
    → relations_check (finished buffer len g e₃) (length (rows_of (take len buffer))) list
    ≡ record {
      answer = result (length (relation_lines (take len buffer)) ∷ []);
      buffer =
          replicate (length (relation_lines (take len buffer))) declared
          ++ drop (length (relation_lines (take len buffer))) list;
    }
appended buffer len g e₁ e₂ e₃ e text-given name-given list room =
    let w = finished-file buffer len g e₁ e₂ e₃ e in
    rw w.file-is
    (new-checked (take len buffer) g w.taken e₁ e₂ e₃ w.rows w.small w.handed name-given text-given list room)

pub appended-row : (buffer : List ℕ) (len : ℕ) (g : Given) (e₁ e₂ e₃ : ℕ) → Accepted buffer len g e₁ e₂ e₃
    → sub_format_given g.description ≡ relations_name → NotLater (take len buffer) g
    → relations_row (finished buffer len g e₃) ≡ length (rows_of (take len buffer))
appended-row buffer len g e₁ e₂ e₃ e name-given early =
    let w = finished-file buffer len g e₁ e₂ e₃ e in
    rw w.file-is
    (latest-unique _ _ (new-holds (take len buffer) g w.taken e₁ e₂ e₃ w.rows w.small w.handed name-given early))

pub appended-latest : (buffer : List ℕ) (len : ℕ) (g : Given) (e₁ e₂ e₃ : ℕ) → Accepted buffer len g e₁ e₂ e₃
    → g.contents ≡ relations_text (take len buffer) → sub_format_given g.description ≡ relations_name
    → NotLater (take len buffer) g
    → (list : List ℕ) → length (relation_lines (take len buffer)) ≤ length list
    → relations_check_latest (finished buffer len g e₃) list
    ≡ record {
      answer = result (length (relation_lines (take len buffer)) ∷ length (rows_of (take len buffer)) ∷ []);
      buffer =
          replicate (length (relation_lines (take len buffer))) declared
          ++ drop (length (relation_lines (take len buffer))) list;
    }
unfolding relations_check_latest with_row
appended-latest buffer len g e₁ e₂ e₃ e text-given name-given early list room =
    rw (
      appended-row buffer len g e₁ e₂ e₃ e name-given early,
      appended buffer len g e₁ e₂ e₃ e text-given name-given list room,
    )
