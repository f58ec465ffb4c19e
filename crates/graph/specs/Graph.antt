-- Rows that go to other rows, as a table of 64 × 64 bytes, and the marks of rows in a search through them. What a row reaches is
-- defined in the crate metafile (specs/Closure). Assumes nothing.
use Rattle.std.specs.Prelude.{ℕ, ◌+◌, ◌*◌, ◌≤◌, ◌<◌, Bool, true, false, ◌≡◌, List, [], ◌∷◌, length, get_or}
use Rattle.metafile.specs.Bytes.{non_zero}
use Rattle.metafile.specs.Closure.{by_way, within, circular_from}
use Rattle.graph.specs.declared.Mark.{Mark}
use Rattle.graph.specs.declared.Mark.TheVariants.{Unvisited, OnPath, Done}

-- row a goes to row b
unfoldable pub goes : List ℕ → ℕ → ℕ → Bool
goes t a b = non_zero (get_or t (a * 64 + b) 0)

-- ---- marks

abbrev pub mark : List Mark → ℕ → Mark
mark m a = get_or m a Unvisited

unfoldable pub is_done : Mark → Bool
is_done Unvisited = false
is_done OnPath = false
is_done Done = true

-- how many are unvisited
unfoldable pub unvisited : List Mark → ℕ
unvisited [] = 0
unvisited (Unvisited ∷ m) = 1 + unvisited m
unvisited (OnPath ∷ m) = unvisited m
unvisited (Done ∷ m) = unvisited m

-- marks at a call: a row that is done goes to rows that are done, and doesn't reach itself
pub record Sound (t : List ℕ) (n : ℕ) (m : List Mark) : Type 0 where
  pub long : length m ≡ 64
  pub closed : (a b : ℕ) → a < n → b < n → mark m a ≡ Done → goes t a b ≡ true → mark m b ≡ Done
  pub acyclic : (a : ℕ) → a < n → mark m a ≡ Done → by_way (goes t) n a a ≡ false

-- marks before and after a call that answers true: the path is the same, and a row that is newly done is within `row`
pub record Grown (t : List ℕ) (n row : ℕ) (m m' : List Mark) : Type 0 where
  pub path-kept : (a : ℕ) → mark m a ≡ OnPath → mark m' a ≡ OnPath
  pub path-only : (a : ℕ) → mark m' a ≡ OnPath → mark m a ≡ OnPath
  pub done-kept : (a : ℕ) → mark m a ≡ Done → mark m' a ≡ Done
  pub done-from : (a : ℕ) → a < n → (mark m a ≡ Done → ⊥) → mark m' a ≡ Done → within (goes t) n row a ≡ true
  pub fewer : unvisited m' ≤ unvisited m

-- ---- what the functions ask

-- both
pub record Given (t : List ℕ) (n row : ℕ) (m : List Mark) : Type 0 where
  pub table : length t ≡ 4096
  pub rows : n ≤ 64
  pub inside : row < n
  pub sound : Sound t n m

-- `standing`: every row on the path reaches this one
pub record StandingGiven (t : List ℕ) (n row : ℕ) (m : List Mark) : Type 0 where
  pub given : Given t n row m
  pub path : (p : ℕ) → p < n → mark m p ≡ OnPath → by_way (goes t) n p row ≡ true

-- `listed`: this row is on the path, and every other row on it reaches this one
pub record ListGiven (t : List ℕ) (n row : ℕ) (m : List Mark) : Type 0 where
  pub given : Given t n row m
  pub own : mark m row ≡ OnPath
  pub path : (p : ℕ) → p < n → mark m p ≡ OnPath → within (goes t) n p row ≡ true

-- ---- what they answer

-- `standing`, where true: the row is done
pub record RowDone (t : List ℕ) (n row : ℕ) (m m' : List Mark) : Type 0 where
  pub sound : Sound t n m'
  pub grown : Grown t n row m m'
  pub done : mark m' row ≡ Done

-- `listed`, where true, at n, and its loop at b: the rows below b that the row goes to are done
pub record ListDone (t : List ℕ) (n row b : ℕ) (m m' : List Mark) : Type 0 where
  pub sound : Sound t n m'
  pub grown : Grown t n row m m'
  pub done : (a : ℕ) → a < b → goes t row a ≡ true → mark m' a ≡ Done

-- `reach`, where no circle is reached from the row: the done rows are the row and those that it reaches
pub record Reached (t : List ℕ) (n row : ℕ) (m : List Mark) : Type 0 where
  pub acyclic : circular_from (goes t) n row ≡ false
  pub marked : (a : ℕ) → a < n → is_done (mark m a) ≡ within (goes t) n row a
