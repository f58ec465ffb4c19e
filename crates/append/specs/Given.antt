-- What append is given, from its parameters and as its struct holds it, and the ends that it answers. Assumes nothing.
use Rattle.std.specs.Prelude.{ℕ, Bool, List}
use Rattle.metafile.specs.declared.Description.{Description}
use Rattle.metafile.specs.declared.Ends.{Ends}
use Rattle.metafile.specs.Append.{Given, first_end, second_end, third_end}
use Rattle.append.specs.declared.Given.{Given as Held}

-- description, parents, specific data, contents, open or not
abbrev pub given_of : Description → List ℕ → List ℕ → List ℕ → Bool → Given
given_of description parents specific contents is_open =
    record {
      description = description;
      parents = parents;
      specific = specific;
      contents = contents;
      is_open = is_open;
    }

abbrev pub given_in : Held → Given
given_in g = given_of g.description g.parents.now g.specific.now g.contents.now g.is_open

-- the three ends
abbrev pub ends_of : List ℕ → Given → Ends
ends_of old g = record { first = first_end old g; second = second_end old g; third = third_end old g }
