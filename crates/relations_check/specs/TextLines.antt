-- The lines of a text, as they are gone through. Assumes nothing.
use Rattle.std.specs.Prelude.{ℕ, List, [], Option, None, Some}
use denote.Ref.{Bor}
use Rattle.metafile.specs.Relations.{split_on}
use Rattle.relations_check.specs.declared.text_lines.Lines.{Lines}

abbrev pub lines_of : Option (Bor (List ℕ)) → List (List ℕ)
lines_of None = []
lines_of (Some text) = split_on 10 text.now

-- the lines that are left
abbrev pub lines_left : Lines → List (List ℕ)
lines_left l = lines_of l.left
