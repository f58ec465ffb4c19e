-- What the contracts cite beside the definitions of the crate metafile: what a part of the contents hands back, and the
-- stretches that have a function of their own. Assumes nothing.
use Rattle.std.specs.Prelude.{ℕ, zero, suc, ◌+◌, ◌≤◌, length, Bool, true, cond, not, ◌&&◌, ◌||◌, ◌≡◌, List, [], ◌∷◌, ◌++◌, leb, eqb, drop}
use Rattle.metafile.specs.Bytes.{part, ◌⊳◌, require, choose, same, member, starts}
use Rattle.metafile.specs.Fields.{count_value}
use Rattle.metafile.specs.Lines.{free, i12, Field, value, lf, opened, lines_of, run, field_fault, text_fault, sub_format_id, time_and_event, sub_type_length, short_id}
use Rattle.metafile.specs.Multi.{multi_head, types_of, type_length, type_bytes, multi_length_for, mini_label, mini_id, mini_data, minis_fault, declared_ids, multi_fault, multi_bytes}
use Rattle.std.specs.declared.result.Result.{Result}
use Rattle.std.specs.declared.result.Result.TheVariants.{Ok, Err}
use Rattle.metafile.specs.declared.refusal.Refusal.{Refusal}
use Rattle.metafile.specs.Refusals.{number_of}

-- a fault, or the number of bytes where there is none
pub record Part : Type 0 where
  pub number : ℕ
  pub bytes : ℕ

abbrev pub part_in : Result ℕ Refusal → Part
part_in (Ok n) = record { number = 0; bytes = n }
part_in (Err r) = record { number = number_of r; bytes = 0 }

abbrev pub part_of : ℕ → ℕ → Part
part_of fault bytes = choose fault (record { number = 0; bytes = bytes }) (λ n. record { number = n; bytes = 0 })

unfoldable pub multi_part : List ℕ → Part
multi_part r = part_of (multi_fault r) (multi_bytes r)

-- each of these short IDs is a text
abbrev pub text_ids : List (List ℕ) → Type 0
text_ids ids = (v : List ℕ) → member v ids ≡ true → text_fault v ≡ 0

-- ---- the stages of the definitions

-- up to the LF after the type count
unfoldable pub head_fault : List ℕ → ℕ
head_fault r =
    run multi_head r
    ⊳ require (leb 1 (types_of r) && leb (types_of r) 64) 7
    ⊳ run (lf ∷ []) (drop 64 r)

-- a type's length and the tests on lengths; up to the short ID; the rest
unfoldable pub type_length_fault : Bool → ℕ → ℕ → List ℕ → ℕ
type_length_fault last announced before t =
    run (opened sub_type_length) t
    ⊳ require (leb 484 (type_length t)) 7
    ⊳ require (not last || eqb announced (multi_length_for (before + type_bytes t))) 7

unfoldable pub type_names : List Field
type_names = lf ∷ lines_of (sub_format_id ∷ []) ++ opened short_id

unfoldable pub type_rest : ℕ → List Field
type_rest n = lf ∷ lines_of time_and_event ++ value (free n) ∷ []

-- where the first mini-chunk must stand
unfoldable pub first_mini : List ℕ → ℕ
first_mini t = field_fault 10 (λ v. require (same v mini_label) 8) t

-- a mini-chunk from its I12 on
unfoldable pub mini_rest : List ℕ → ℕ
mini_rest t = run (value i12 ∷ value (free (count_value (part 0 12 t))) ∷ []) t

-- what a mini-chunk adds to the data under a short ID
unfoldable pub data_under : List ℕ → List ℕ → List ℕ
data_under id t = cond (same (mini_id t) id) (part 32 (mini_data t) t) []

-- the mini-chunks from a place on have no fault
pub record Whole (r : List ℕ) (at : ℕ) : Type 0 where
  pub inside : at ≤ length r
  pub no-fault : minis_fault (declared_ids r) 0 (drop at r) ≡ 0

-- what each mini-chunk adds, with k bytes to pass over before the next one
unfoldable pub each_under : List ℕ → ℕ → List ℕ → List (List ℕ)
each_under id k [] = []
each_under id zero (x ∷ xs) =
    let rest : List (List ℕ) = each_under id (31 + mini_data (x ∷ xs)) xs in
    cond (starts mini_label (x ∷ xs)) (data_under id (x ∷ xs) ∷ rest) []
each_under id (suc k) (x ∷ xs) = each_under id k xs
