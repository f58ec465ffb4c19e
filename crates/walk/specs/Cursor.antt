-- A cursor over the rows of a file ("Reading"): at a row, or where the reading stops. Assumes nothing.
use Rattle.std.specs.Prelude.{ℕ, ◌+◌, ◌≤◌, false, ◌≡◌, List, length, is_ok}
use Rattle.std.specs.declared.result.Result.{Result}
use Rattle.std.specs.declared.result.Result.TheVariants.{Ok, Err}
use Rattle.metafile.specs.declared.refusal.Refusal.{Refusal}
use Rattle.metafile.specs.Refusals.{number_of}
use Rattle.metafile.specs.Bytes.{choose}
use Rattle.metafile.specs.Header.{header_fault}
use Rattle.metafile.specs.Reading.{unbegun, rows_of}
use Rattle.metafile.specs.Answers.{first_refusal}
use Rattle.metafile.specs.Calls.{contents_tests}
use Rattle.walk.specs.declared.answers.Header.{Header}
use Rattle.chunk.specs.declared.parts.Layout.{Layout}
use Rattle.walk.specs.declared.cursor.Cursor.{Cursor}
use Rattle.walk.specs.Walk.{header_of, place_after, no_layout, step_of}
use Rattle.walk.specs.Index.{Indexed}

-- where a reading stands behind n rows, the last of which ends at the place `at`, in a file whose header h is whole
pub record Behind (file : List ℕ) (h : Header) (n at : ℕ) : Type 0 where
  pub header_is : h ≡ header_of file
  pub whole : h.number ≡ 0
  pub few : n ≤ length (rows_of file)
  pub place_is : at ≡ place_after file n

-- behind n rows, by the step that is made there
abbrev pub stop_of : Result Layout ℕ → ℕ
stop_of (Ok l) = 0
stop_of (Err n) = n

abbrev pub layout_in : Result Layout ℕ → Layout
layout_in (Ok l) = l
layout_in (Err n) = no_layout

abbrev pub cursor_of : Header → ℕ → ℕ → Result Layout ℕ → Cursor
cursor_of h n at s = record { go = is_ok s; number = stop_of s; row = n; at = at; layout = layout_in s; header = h }

-- no row at all: this number
unfoldable pub cursor_none : ℕ → Cursor
cursor_none n =
    record {
      go = false;
      number = n;
      row = 0;
      at = 0;
      layout = no_layout;
      header = record { number = n; end = 0; mark = 0; llc = false; good = false };
    }

-- a cursor with another number
abbrev pub numbered : Cursor → ℕ → Cursor
numbered c n = record { go = c.go; number = n; row = c.row; at = c.at; layout = c.layout; header = c.header }

-- no row, since the file header has the fault k: the header keeps it, and the number is that of the reading
unfoldable pub cursor_unbegun : List ℕ → ℕ → Cursor
cursor_unbegun file k = numbered (cursor_none k) (unbegun (length file) k)

-- behind n rows: row n with its place and its chunk, or the number with which the reading stops there; no row where the
-- file header isn't whole
unfoldable pub cursor_at : List ℕ → ℕ → Cursor
cursor_at file n =
    choose (header_fault file) (cursor_of (header_of file) n (place_after file n) (step_of file n)) (cursor_unbegun file)

-- the cursor stands behind its rows, and the index has the rows up to it
pub record At (file : List ℕ) (c : Cursor) (index : List ℕ) : Type 0 where
  pub is : c ≡ cursor_at file c.row
  pub few : c.row ≤ length (rows_of file)
  pub indexed : Indexed file (c.row + 1) index

-- row k, from 0, for the calls that name a row: a cursor at it, or the number of the first of contents' tests that refuses,
-- "11 a lent byte buffer over 2^30" and "13 row not in the reading"
unfoldable pub named_of : List ℕ → ℕ → Cursor
named_of file k = choose (first_refusal (contents_tests file k)) (cursor_at file k) cursor_none

-- the same, of what a call answers
abbrev pub named_in : Result Cursor Refusal → Cursor
named_in (Ok c) = c
named_in (Err r) = cursor_none (number_of r)
