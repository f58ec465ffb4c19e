-- "Begin is given strategy, mark, serial, both dates and both agents, writes these bytes at the start of a lent buffer
-- and answers their number." Assumes nothing.
use Rattle.std.specs.Prelude.{ℕ, Bool, not, ◌&&◌, List, [], ◌∷◌, ◌++◌, ltb, length}
use Rattle.metafile.specs.Bytes.{all, non_zero, is_empty, same, starts}
use Rattle.metafile.specs.Fields.{digits_of}
use Rattle.metafile.specs.Lines.{NUL, lines_of, write, formed}
use Rattle.metafile.specs.Closing.{Integrity, integrity_lines, integrity_values, closing_bytes}
use Rattle.metafile.specs.Header.{title}
use Rattle.metafile.specs.Multi.{mini_label}
use Rattle.metafile.specs.Answers.{result, Test, refuse, over_limit, Outcome, placed, unless_refused}

pub record BeginGiven : Type 0 where
  pub strategy : List ℕ
  pub mark : List ℕ
  pub integrity : Integrity

unfoldable pub title_values : BeginGiven → List (List ℕ)
title_values b = [] ∷ (b.strategy ++ digits_of 3 (length b.mark)) ∷ []

-- the 65 bytes, then the closing that is summed over them
unfoldable pub title_bytes : BeginGiven → List ℕ
title_bytes b = write title (title_values b)

unfoldable pub begun_file : BeginGiven → List ℕ
begun_file b = title_bytes b ++ closing_bytes b.mark b.integrity (title_bytes b)

-- "6 field out of form or range; also begin .. (there too a wrong listed word, an over-long text or a mark over 999)":
-- an over-long text does not fill its field's width
unfoldable pub begin_formed : BeginGiven → Bool
begin_formed b =
    formed title (title_values b)
    && not (ltb 999 (length b.mark))
    && formed (lines_of integrity_lines) (integrity_values b.integrity)

-- "begin 11, 6, 2, 3, 15, 18"
unfoldable pub begin_tests : BeginGiven → List ℕ → List Test
begin_tests b buffer =
    refuse 11 (over_limit (length buffer ∷ length b.mark ∷ length b.integrity.recording_agent ∷ length b.integrity.writing_agent ∷ []))
    ∷ refuse 6 (not (begin_formed b))
    ∷ refuse 2 (same b.strategy NUL && is_empty b.mark)
    ∷ refuse 3 (starts mini_label b.mark)
    ∷ refuse 15 (not (all non_zero b.mark))
    ∷ refuse 18 (ltb (length buffer) (length (begun_file b)))
    ∷ []

-- what begin answers and leaves in the buffer
unfoldable pub begin : BeginGiven → List ℕ → Outcome
begin b buffer =
    unless_refused (begin_tests b buffer) buffer
    (record { answer = result (length (begun_file b) ∷ []); buffer = placed 0 (begun_file b) buffer })
