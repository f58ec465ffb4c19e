-- The lines of a chunk, whose serial number is v, how many they are, and lines in a buffer. Assumes nothing.
use Rattle.std.specs.Prelude.{ℕ, zero, suc, ◌+◌, ◌*◌, Bool, cond, ◌≡◌, List, [], ◌∷◌, length, drop}
use Rattle.metafile.specs.Bytes.{part}
use Rattle.metafile.specs.Answers.{placed}
use Rattle.metafile.specs.Below.{join_below}
use Rattle.metafile.specs.Relations.{is_relations, lined}
use Rattle.relation_line.specs.Form.{line_for}
use Rattle.relations_write.specs.Found.{listed_in}

-- how many of the numbers below n pass a test
unfoldable pub count_below : ℕ → (ℕ → Bool) → ℕ
count_below zero p = 0
count_below (suc n) p = count_below n p + cond (p n) 1 0

-- the lines of the listed ones of n dependencies
unfoldable pub chunk_lines : List ℕ → List ℕ → List ℕ → ℕ → List (List ℕ)
chunk_lines file v s n = join_below n (λ (j : ℕ). cond (listed_in file s j) (line_for v s j ∷ []) [])

-- the same but for a relations row, which has none
unfoldable pub lines_in : List ℕ → List ℕ → List ℕ → ℕ → List (List ℕ)
lines_in file v s n = cond (is_relations s) [] (chunk_lines file v s n)

unfoldable pub line_count : List ℕ → List ℕ → ℕ → ℕ
line_count file s n = cond (is_relations s) 0 (count_below n (listed_in file s))

-- n lines put at the place p of the buffer b, up to q; b' is the buffer then
pub record Put (ls : List (List ℕ)) (n p q : ℕ) (b b' : List ℕ) : Type 0 where
  pub ends : q ≡ p + 605 * n
  pub long : length (lined ls) ≡ 605 * n
  pub put : b' ≡ placed p (lined ls) b

-- the lines of the listed ones of n dependencies, of the chunk at a place of the file whose serial number stands at another
abbrev pub ListedPut : List ℕ → ℕ → ℕ → ℕ → ℕ → ℕ → List ℕ → List ℕ → Type 0
ListedPut file serial at n p q b b' =
    Put (chunk_lines file (part serial 38 file) (drop at file) n) (count_below n (listed_in file (drop at file))) p q b b'

-- the same but for a relations row
abbrev pub RowPut : List ℕ → ℕ → ℕ → ℕ → ℕ → ℕ → List ℕ → List ℕ → Type 0
RowPut file serial at n p q b b' =
    Put (lines_in file (part serial 38 file) (drop at file) n) (line_count file (drop at file) n) p q b b'
