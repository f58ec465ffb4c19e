-- Rows one behind the other, in a directory. Assumes nothing.
use Rattle.std.specs.Prelude.{ℕ, ◌+◌, ◌≤◌, ◌<◌, ◌≡◌, List, length}
use Rattle.metafile.specs.Reading.{rows_of}
use Rattle.metafile.specs.Append.{row_no}
use Rattle.directory.specs.Directory.{serial_no, start_no, Directory}
use Rattle.walk.specs.declared.answers.Header.{Header}
use Rattle.walk.specs.Cursor.{Behind}
use Rattle.relations_check.specs.declared.window.Window.{Window}

-- the n entries of a directory are the rows from row `from` on
pub record WindowOf (file d : List ℕ) (from n : ℕ) : Type 0 where
  pub holds : Directory file n d
  pub rows : from + n ≤ length (rows_of file)
  pub serials : (j : ℕ) → j < n → serial_no file d j ≡ (row_no (rows_of file) (from + j)).serial
  pub starts : (j : ℕ) → j < n → start_no d j ≡ (row_no (rows_of file) (from + j)).place

-- a directory filled from row `from` on: at least that row is in it
pub record Filled (file : List ℕ) (h : Header) (from : ℕ) (d : List ℕ) (w : Window) : Type 0 where
  pub from_is : w.from ≡ from
  pub some : 0 < w.entries
  pub window : WindowOf file d w.from w.entries
  pub behind : Behind file h (w.from + w.entries) w.end
