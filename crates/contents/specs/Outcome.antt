-- What contents gives: the part handed back and the number; and the part by its place and bytes. Assumes nothing.
use Rattle.std.specs.Prelude.{ℕ, List}
use Rattle.metafile.specs.declared.Row.{Row}
use Rattle.metafile.specs.Bytes.{part, choose}
use Rattle.metafile.specs.Reading.{rows_of}
use Rattle.metafile.specs.Answers.{first_refusal}
use Rattle.metafile.specs.Append.{row_no}
use Rattle.metafile.specs.Calls.{ContentsOutcome, contents_tests}
use Rattle.std.specs.declared.result.Result.{Result}
use Rattle.std.specs.declared.result.Result.TheVariants.{Ok, Err}
use Rattle.metafile.specs.declared.refusal.Refusal.{Refusal}
use Rattle.metafile.specs.Refusals.{number_of}
use Rattle.contents.specs.declared.Part.{Part}
use Rattle.contents.specs.declared.Place.{Place}

abbrev pub contents_outcome : List ℕ → ℕ → ContentsOutcome
contents_outcome part number = record { contents = part; number = number }

-- "the part of the file that the row names": contents place and contents bytes; "refused, an empty part and the number"
unfoldable pub part_named : Row → Part
part_named r = record { place = r.contents; bytes = r.bytes; number = 0 }

abbrev pub part_alone : ℕ → Part
part_alone n = record { place = 0; bytes = 0; number = n }

-- the part found, or refused
abbrev pub part_in : Result Place Refusal → Part
part_in (Ok p) = record { place = p.place; bytes = p.bytes; number = 0 }
part_in (Err r) = part_alone (number_of r)

unfoldable pub part_of : List ℕ → ℕ → Part
part_of file k = choose (first_refusal (contents_tests file k)) (part_named (row_no (rows_of file) k)) part_alone

-- what contents hands back, by its place and bytes
unfoldable pub part_outcome : List ℕ → Part → ContentsOutcome
part_outcome file p = record { contents = part p.place p.bytes file; number = p.number }
