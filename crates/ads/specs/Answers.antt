-- The structs that the exports answer: one definition for each gives the paper's answer, by its number and values. "number
-- only": beside a number nothing else is answered, so the other values are 0 (`..Alone`). Assumes nothing.
use Rattle.std.specs.Prelude.{ℕ, false, cond, List, [], ◌∷◌}
use Rattle.metafile.specs.Bytes.{choose}
use Rattle.metafile.specs.Answers.{Answer, result, refused, flag}
use Rattle.ads.specs.declared.answers.Written.{Written}
use Rattle.ads.specs.declared.answers.Counted.{Counted}
use Rattle.ads.specs.declared.answers.CountedRow.{CountedRow}
use Rattle.ads.specs.declared.answers.Parent.{Parent}
use Rattle.ads.specs.declared.answers.Ends.{Ends}
use Rattle.ads.specs.declared.answers.Ancestry.{Ancestry}
use Rattle.ads.specs.declared.answers.Priced.{Priced}

-- begin, gather, the writer of relations, listing, pack, unpack: the length
unfoldable pub written_answer : Written → Answer
written_answer w = choose w.number (result (w.length ∷ [])) (λ n. refused n)

abbrev pub written_alone : ℕ → Written
written_alone n = record { length = 0; number = n }

-- the check of relations: how many verdicts
unfoldable pub counted_answer : Counted → Answer
counted_answer c = choose c.number (result (c.count ∷ [])) (λ n. refused n)

abbrev pub counted_alone : ℕ → Counted
counted_alone n = record { count = 0; number = n }

-- and where no row is named, the row
unfoldable pub counted_row_answer : CountedRow → Answer
counted_row_answer c = choose c.number (result (c.count ∷ c.row ∷ [])) (λ n. refused n)

abbrev pub counted_row_alone : ℕ → CountedRow
counted_row_alone n = record { count = 0; row = 0; number = n }

-- "the row with that serial and whether the sub-formats agree, or missing"
unfoldable pub parent_answer : Parent → Answer
parent_answer p = choose p.number (cond p.found (result (p.row ∷ flag p.agree ∷ [])) (result [])) (λ n. refused n)

abbrev pub parent_alone : ℕ → Parent
parent_alone n = record { row = 0; found = false; agree = false; number = n }

-- "The answer is the three ends."
unfoldable pub ends_answer : Ends → Answer
ends_answer e = choose e.number (result (e.first ∷ e.second ∷ e.third ∷ [])) (λ n. refused n)

abbrev pub ends_alone : ℕ → Ends
ends_alone n = record { first = 0; second = 0; third = 0; number = n }

-- ancestors: how many rows are listed, and how many dependencies name no row
unfoldable pub ancestry_answer : Ancestry → Answer
ancestry_answer a = choose a.number (result (a.count ∷ a.missing ∷ [])) (λ n. refused n)

abbrev pub ancestry_alone : ℕ → Ancestry
ancestry_alone n = record { count = 0; missing = 0; number = n }

-- price: the length of the text, header bytes, chunk bytes, unread bytes
unfoldable pub priced_answer : Priced → Answer
priced_answer p = choose p.number (result (p.length ∷ p.header ∷ p.chunks ∷ p.unread ∷ [])) (λ n. refused n)

abbrev pub priced_alone : ℕ → Priced
priced_alone n = record { length = 0; header = 0; chunks = 0; unread = 0; number = n }
