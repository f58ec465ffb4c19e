-- The table of steps (specs/Steps), row by row and dependency by dependency.
--     table_none                    no row
--     Tabling tabling-..            the first j dependencies of a row: its steps, and how many name no row
--     tabled tabled-missing         all dependencies of a row
--     dependency-inside parent_is   the place of a dependency, and the row that it names
--     Stepping stepping-..          the first m rows
-- Assumes nothing.
use Rattle.std.proofs.Common.{ℕ, zero, suc, ◌+◌, ◌*◌, ◌≤◌, ◌<◌, ◌≡◌, Bool, true, false, ◌||◌, List, [], length, get_or, set, replicate, eqb, leb, ltb, ltb-true, ltb-false, refl, sym, ap, ◌∙◌, arith, eqb-true, ne_eqb, lt-ltb, le-leb, length-set, get_or-set_same, get_or-set_other}
use Rattle.std.proofs.Math.Seq.{drop-drop}
use Rattle.std.proofs.lemmas.Bool.{eqb-false}
use Rattle.std.proofs.lemmas.List.{get_or-replicate, length-replicate}
use borrow.Author.Tests.{lt-leb}
use Rattle.metafile.specs.Bytes.{part}
use Rattle.metafile.specs.Chunk.{dependency_serial_of}
use Rattle.metafile.specs.Reading.{rows_of}
use Rattle.metafile.specs.Answers.{flag}
use Rattle.metafile.specs.Append.{row_no}
use Rattle.metafile.specs.Calls.{row_with, chunk_of, parent_row}
use Rattle.metafile.specs.Below.{any_below, sum_below}
use Rattle.metafile.specs.Ancestors.{depends_on, missing_of}
use Rattle.laws.proofs.First.{test, or_right, or-none}
use Rattle.laws.proofs.Below.{any_none, any-more, sum_more}
use Rattle.graph.specs.Graph.{goes}
use Rattle.graph.proofs.Laws.{goes-there, goes-not}
use Rattle.ancestors.specs.declared.rows.NotedRow.{NotedRow}
use Rattle.ancestors.specs.Noted.{noted_no, NotedAs, AllNoted}
use Rattle.ancestors.specs.Steps.{Tabled, Kept}

-- ---- a step put into the table

goes_same : (t t' : List ℕ) (a b : ℕ) → get_or t (a * 64 + b) 0 ≡ get_or t' (a * 64 + b) 0 → goes t a b ≡ goes t' a b
unfolding goes
goes_same t t' a b e = rw e

module _ (t : List ℕ) (a b : ℕ) where
  goes-put : a * 64 + b < length t → goes (set t (a * 64 + b) 1) a b ≡ true
  goes-put h = goes-there _ a b (λ z. let one = get_or-set_same t (a * 64 + b) 1 0 h in omega arith)

  goes_kept : (c d : ℕ) → (c * 64 + d ≡ a * 64 + b → ⊥) → goes (set t (a * 64 + b) 1) c d ≡ goes t c d
  goes_kept c d ne = goes_same _ t c d (get_or-set_other t (a * 64 + b) (c * 64 + d) 1 0 ne)

-- ---- no row

pub table_none : (file : List ℕ) (n : ℕ) (t : List ℕ) → t ≡ replicate 4096 0 → Tabled file n 0 t
table_none file n t e =
    record {
      long = rw e (length-replicate {A = ℕ} 4096 0);
      steps = λ a b h l. absurd (omega arith);
      empty = λ i h l. rw e (get_or-replicate {A = ℕ} 4096 i 0 0 l);
    }

-- ---- the dependencies of a row

-- the first j dependencies of row m, of n rows: its steps, and how many name no row
pub record Tabling (file : List ℕ) (n m j missing : ℕ) (t : List ℕ) : Type 0 where
  pub long : length t ≡ 4096
  pub before : (a b : ℕ) → a < m → b < n → goes t a b ≡ depends_on file a b
  pub own : (b : ℕ) → b < n → goes t m b ≡ any_below j (λ (i : ℕ). eqb (parent_row file m i) b)
  pub empty : (i : ℕ) → (m + 1) * 64 ≤ i → i < 4096 → get_or t i 0 ≡ 0
  pub is : missing ≡ sum_below j (λ (i : ℕ). flag (leb (length (rows_of file)) (parent_row file m i)))
  pub most : missing ≤ j

pub tabling-none : {file : List ℕ} {n m : ℕ} {t : List ℕ} → Tabled file n m t → n ≤ 64 → m < n → Tabling file n m 0 0 t
unfolding sum_below
tabling-none {file} {n} {m} {t} w few less =
    record {
      long = w.long;
      before = w.steps;
      own = λ b h. goes-not t m b (w.empty (m * 64 + b) (omega arith) (omega arith)) ∙ sym (any_none (λ (i : ℕ). eqb (parent_row file m i) b));
      empty = λ i h l. w.empty i (omega arith) l;
      is = refl;
      most = omega arith;
    }

module _ {file : List ℕ} {n m j missing : ℕ} {t : List ℕ} (w : Tabling file n m j missing t) where
  missing-more : sum_below (j + 1) (λ (i : ℕ). flag (leb (length (rows_of file)) (parent_row file m i)))
      ≡ sum_below j (λ (i : ℕ). flag (leb (length (rows_of file)) (parent_row file m i))) + flag (leb (length (rows_of file)) (parent_row file m j))
  missing-more = sum_more j (λ (i : ℕ). flag (leb (length (rows_of file)) (parent_row file m i)))

  own-more : (b : ℕ) → b < n → any_below (j + 1) (λ (i : ℕ). eqb (parent_row file m i) b) ≡ (goes t m b || eqb (parent_row file m j) b)
  own-more b h = any-more j (λ (i : ℕ). eqb (parent_row file m i) b) ∙ ap (λ (x : Bool). x || eqb (parent_row file m j) b) (sym (w.own b h))

  own_row : (p : ℕ) → p ≡ parent_row file m j → m * 64 + p < length t → (b : ℕ) → b < n
      → goes (set t (m * 64 + p) 1) m b ≡ any_below (j + 1) (λ (i : ℕ). eqb (parent_row file m i) b)
  own_row p is inside b h =
      test (eqb p b)
      (λ q.
      let here : goes (set t (m * 64 + p) 1) m b ≡ true = rw (sym (eqb-true p b q)) (goes-put t m p inside) in
      here ∙ sym (own-more b h ∙ or_right (goes t m b) _ (rw (← is) q)))
      (λ q.
      let ne = eqb-false p b q in
      goes_kept t m p m b (λ e. ne (omega arith)) ∙ sym (own-more b h ∙ rw (← is, q, or-none)))

  -- dependency j names row p
  pub tabling_row : (p : ℕ) → p ≡ parent_row file m j → n ≡ length (rows_of file) → n ≤ 64 → m < n → p < n
      → Tabling file n m (j + 1) missing (set t (m * 64 + p) 1)
  unfolding flag
  tabling_row p is count few less found =
      let inside : m * 64 + p < length t = omega (arith, w.long) in
      record {
        long = length-set t (m * 64 + p) 1 ∙ w.long;
        before = λ a b h l. goes_kept t m p a b (λ e. omega arith) ∙ w.before a b h l;
        own = λ b h. own_row p is inside b h;
        empty = λ i h l. get_or-set_other t (m * 64 + p) i 1 0 (λ e. omega arith) ∙ w.empty i h l;
        is = w.is ∙ sym (missing-more ∙ rw (sym is, lt-leb (length (rows_of file)) p (omega arith)) (omega arith));
        most = omega (arith, w.most);
      }

  -- dependency j names no row
  pub tabling-missing : n ≡ length (rows_of file) → n ≤ parent_row file m j → Tabling file n m (j + 1) (missing + 1) t
  unfolding flag
  tabling-missing count none =
      record {
        long = w.long;
        before = w.before;
        own = λ b h. sym (own-more b h ∙ rw (ne_eqb (parent_row file m j) b (λ e. omega arith), or-none));
        empty = w.empty;
        is = sym (missing-more ∙ rw (le-leb (length (rows_of file)) (parent_row file m j) (omega arith), ← w.is));
        most = omega (arith, w.most);
      }

  -- all of them
  module _ {r : NotedRow} (here : NotedAs file m r) (all : j ≡ r.dependencies) where
    dependencies-are : j ≡ (row_no (rows_of file) m).dependencies
    dependencies-are = all ∙ here.count-is

    pub tabled-missing : missing ≡ missing_of file m
    unfolding missing_of
    tabled-missing = rw (← dependencies-are) w.is

    pub tabled : n ≡ length (rows_of file) → Tabled file n (m + 1) t
    unfolding depends_on
    tabled rows =
        record {
          long = w.long;
          steps = λ a b h l.
              test (eqb a m)
              (λ q. rw (eqb-true a m q, lt-ltb b (length (rows_of file)) (omega arith), ← dependencies-are) (w.own b l))
              (λ q. w.before a b (omega (arith, eqb-false a m q)) l);
          empty = w.empty;
        }

-- ---- the place of a dependency, and the row that it names

module _ {file : List ℕ} {row : ℕ} {r : NotedRow} (w : NotedAs file row r) (j : ℕ) where
  pub dependency-inside : j < r.dependencies → r.place + 568 + 25 + 344 * j + 38 ≤ length file
  dependency-inside less = omega (arith, w.inside)

  pub parent_is : row_with (part (r.place + 568 + 25 + 344 * j) 38 file) (rows_of file) ≡ parent_row file row j
  unfolding parent_row chunk_of dependency_serial_of
  parent_is =
      let sum : r.place + 568 + 25 + 344 * j ≡ r.place + (568 + 344 * j + 25) = omega arith in
      rw (sum, ← drop-drop (568 + 344 * j + 25) r.place file, w.place_is)

-- ---- all rows

-- the first m rows: their steps, and how many of their dependencies name no row; the rest of the rows is as before
pub record Stepping (file : List ℕ) (n m : ℕ) (before rows : List NotedRow) (t : List ℕ) : Type 0 where
  pub noted : AllNoted file rows
  pub kept : Kept before rows
  pub long : length rows ≡ n
  pub table : Tabled file n m t
  pub done : (i : ℕ) → i < m → (noted_no rows i).missing ≡ missing_of file i

pub stepping-none : {file : List ℕ} {rows : List NotedRow} {t : List ℕ} → AllNoted file rows → t ≡ replicate 4096 0
    → Stepping file (length rows) 0 rows rows t
stepping-none w e =
    record {
      noted = w;
      kept = record { count = refl; each = λ i. refl };
      long = refl;
      table = table_none _ _ _ e;
      done = λ i h. absurd (omega arith);
    }

-- the count of a row is its own matter
again : {file : List ℕ} {i : ℕ} {r : NotedRow} (missing : ℕ) → NotedAs file i r → NotedAs file i (record r { missing = missing })
again missing w =
    record { serial-is = w.serial-is; serial-inside = w.serial-inside; place_is = w.place_is; count-is = w.count-is; inside = w.inside }

module _ {file : List ℕ} {n m : ℕ} {before rows : List NotedRow} {t : List ℕ} (w : Stepping file n m before rows t) where
  pub stepping-more : m < n → (missing : ℕ) → missing ≡ missing_of file m → {t' : List ℕ} → Tabled file n (m + 1) t'
      → Stepping file n (m + 1) before (set rows m (record (noted_no rows m) { missing = missing })) t'
  stepping-more less missing is more =
      let r : NotedRow = record (noted_no rows m) { missing = missing } in
      let z : NotedRow = record { place = 0; serial = 0; dependencies = 0; missing = 0 } in
      let here : m < length rows = omega (arith, w.long) in
      let long : length (set rows m r) ≡ length rows = length-set rows m r in
      record {
        noted = record {
          count = long ∙ w.noted.count;
          few = omega (arith, long, w.noted.few);
          each = λ i h.
              test (eqb i m)
              (λ q. rw (eqb-true i m q, get_or-set_same rows m r z here) (again missing (w.noted.each m here)))
              (λ q. rw (get_or-set_other rows m i r z (eqb-false i m q)) (w.noted.each i (omega (arith, long))));
        };
        kept = record {
          count = long ∙ w.kept.count;
          each = λ i.
              test (eqb i m)
              (λ q. rw (eqb-true i m q, get_or-set_same rows m r z here) (ap (λ (s : NotedRow). record s { missing = missing }) (w.kept.each m)))
              (λ q. rw (get_or-set_other rows m i r z (eqb-false i m q)) (w.kept.each i));
        };
        long = long ∙ w.long;
        table = more;
        done = λ i h.
            test (eqb i m)
            (λ q. rw (eqb-true i m q, get_or-set_same rows m r z here) is)
            (λ q. let ne = eqb-false i m q in rw (get_or-set_other rows m i r z ne) (w.done i (omega arith)));
      }
