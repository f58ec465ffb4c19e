-- Integrity data and the closing: "mark, integrity data, mark". It ends a chunk, and in the file header the 65 bytes
-- that stand in place of one. c is where it begins, m the mark, s the bytes from the chunk's place on.
-- Assumes nothing.
use Rattle.std.specs.Prelude.{ℕ, ◌+◌, Bool, List, [], ◌∷◌, ◌++◌, eqb, length, take}
use Rattle.metafile.specs.Bytes.{part, sum}
use Rattle.metafile.specs.Fields.{digits_of, count_value, padded}
use Rattle.metafile.specs.Lines.{Field, fixed, value, Line, lf, lines_of, write, chunk_serial, recording_date, recording_agent, writing_date, writing_agent, checksum}

-- the five lines before the sum's
unfoldable pub integrity_lines : List Line
integrity_lines = chunk_serial ∷ recording_date ∷ recording_agent ∷ writing_date ∷ writing_agent ∷ []

-- "The sum is modulo 256, over the chunk (header and contents), the mark after it, and the first 250 bytes of
-- integrity data": the fields that are summed, and those behind them
unfoldable pub summed : List ℕ → List Field
summed m = fixed m ∷ lines_of integrity_lines ++ fixed checksum.label ∷ []

unfoldable pub unsummed : List ℕ → List Field
unsummed m = value checksum.kind ∷ lf ∷ fixed m ∷ []

unfoldable pub closing : List ℕ → List Field
closing m = summed m ++ unsummed m

-- where the sum's three digits stand
unfoldable pub sum_place : ℕ → List ℕ → ℕ
sum_place c m = c + length m + 250

unfoldable pub closing_end : ℕ → List ℕ → ℕ
closing_end c m = c + length m + 254 + length m

unfoldable pub closing_serial : ℕ → List ℕ → List ℕ → List ℕ
closing_serial c m s = part (c + length m + 20) 38 s

unfoldable pub sum_good : ℕ → List ℕ → List ℕ → Bool
sum_good c m s = eqb (count_value (part (sum_place c m) 3 s)) (sum (take (sum_place c m) s))

-- ---- writing

-- the fields given, in the order of the lines, agents as they were given
pub record Integrity : Type 0 where
  pub serial : List ℕ
  pub recording_date : List ℕ
  pub recording_agent : List ℕ
  pub writing_date : List ℕ
  pub writing_agent : List ℕ

unfoldable pub integrity_values : Integrity → List (List ℕ)
integrity_values i = i.serial ∷ i.recording_date ∷ padded 32 i.recording_agent ∷ i.writing_date ∷ padded 32 i.writing_agent ∷ []

-- the closing of these bytes, up to the sum's digits, and whole
unfoldable pub summed_bytes : List ℕ → Integrity → List ℕ
summed_bytes m i = write (summed m) (integrity_values i)

unfoldable pub closing_bytes : List ℕ → Integrity → List ℕ → List ℕ
closing_bytes m i before = summed_bytes m i ++ write (unsummed m) (digits_of 3 (sum (before ++ summed_bytes m i)) ∷ [])
