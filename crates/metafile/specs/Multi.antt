-- The contents of a MultiChunk: its header, the types, the mini-chunks. r is the file from the contents' first line
-- on, t from a type's or a mini-chunk's first byte on. Assumes nothing.
use Rattle.std.specs.Prelude.{ℕ, zero, suc, ◌+◌, ◌-◌, Bool, cond, not, ◌&&◌, ◌||◌, List, [], ◌∷◌, ◌++◌, leb, eqb, drop}
use Rattle.metafile.specs.Bytes.{bytes, part, ◌⊳◌, require, is_zero, same, member, starts}
use Rattle.metafile.specs.Fields.{count_value}
use Rattle.metafile.specs.Lines.{text, free, i12, Field, fixed, value, lf, opened, lines_of, run, field_fault, sub_format_id, time_and_event, multi_header_length, type_count, sub_type_length, short_id}

-- ---- "Multi_Chunk_Header_Length= I12; MiniChunk_Type_Count= I4 from 1 to 64"

unfoldable pub multi_head : List Field
multi_head = lines_of (multi_header_length ∷ []) ++ opened type_count

unfoldable pub multi_length : List ℕ → ℕ
multi_length r = count_value (part 26 12 r)

unfoldable pub types_of : List ℕ → ℕ
types_of r = count_value (part 60 4 r)

-- ---- "for each type SubType_Header_Length= I12, SubFormat_ID=, SubFormat_Short_ID= A10, then the four time and event
-- lines and specific data (length 484 + s)"

unfoldable pub type_length : List ℕ → ℕ
type_length t = count_value (part 22 12 t)

unfoldable pub type_specific : List ℕ → ℕ
type_specific t = type_length t - 484

-- a type's bytes, "518 + s for each type"
unfoldable pub type_bytes : List ℕ → ℕ
type_bytes t = 518 + type_specific t

unfoldable pub type_id : List ℕ → List ℕ
type_id t = part 324 10 t

-- "The header length is 27 plus 518 + s for each type."
unfoldable pub multi_length_for : ℕ → ℕ
multi_length_for types = 27 + types

-- one type: whether it is the last, the length to meet there, the bytes and the short IDs of the types before it.
-- "A length is tested once the counts it rests on are read and before the LF after them", "Multi_Chunk_Header_Length
-- at the last SubType_Header_Length, after that one's own test"; "8 short ID twice"
unfoldable pub type_fault : Bool → ℕ → ℕ → List (List ℕ) → List ℕ → ℕ
type_fault last announced before ids t =
    run (opened sub_type_length) t
    ⊳ require (leb 484 (type_length t)) 7
    ⊳ require (not last || eqb announced (multi_length_for (before + type_bytes t))) 7
    ⊳ run (lf ∷ lines_of (sub_format_id ∷ []) ++ opened short_id) (drop 34 t)
    ⊳ require (not (member (type_id t) ids)) 8
    ⊳ run (lf ∷ lines_of time_and_event ++ value (free (type_specific t)) ∷ []) (drop 334 t)

-- n types
unfoldable pub types_fault : ℕ → ℕ → ℕ → List (List ℕ) → List ℕ → ℕ
types_fault zero announced before ids t = 0
types_fault (suc n) announced before ids t =
    let rest : ℕ = types_fault n announced (before + type_bytes t) (type_id t ∷ ids) (drop (type_bytes t) t) in
    type_fault (is_zero n) announced before ids t ⊳ rest

unfoldable pub types_bytes : ℕ → List ℕ → ℕ
types_bytes zero t = 0
types_bytes (suc n) t = type_bytes t + types_bytes n (drop (type_bytes t) t)

unfoldable pub type_ids : ℕ → List ℕ → List (List ℕ)
type_ids zero t = []
type_ids (suc n) t = type_id t ∷ type_ids n (drop (type_bytes t) t)

-- ---- "then mini-chunks "MiniChunk=", A10, I12, with exactly that many data bytes and no LF"

unfoldable pub mini_label : List ℕ
mini_label = bytes "MiniChunk="

unfoldable pub mini_id : List ℕ → List ℕ
mini_id t = part 10 10 t

unfoldable pub mini_data : List ℕ → ℕ
mini_data t = count_value (part 20 12 t)

-- "8 short ID .. undeclared"; "a mini-chunk's A10 and I12" are two fields
unfoldable pub mini_fault : List (List ℕ) → List ℕ → ℕ
mini_fault ids t =
    run (fixed mini_label ∷ value (text 10) ∷ []) t
    ⊳ require (member (mini_id t) ids) 8
    ⊳ run (value i12 ∷ value (free (mini_data t)) ∷ []) (drop 20 t)

-- "Mini-chunks go on while the next 10 bytes are "MiniChunk=". Each walk goes down the bytes, of which it has k still
-- to pass over before the next mini-chunk: its first fault, the bytes up to its end, the data under one short ID.
unfoldable pub minis_fault : List (List ℕ) → ℕ → List ℕ → ℕ
minis_fault ids k [] = 0
minis_fault ids zero (x ∷ xs) =
    let rest : ℕ = minis_fault ids (31 + mini_data (x ∷ xs)) xs in
    cond (starts mini_label (x ∷ xs)) (mini_fault ids (x ∷ xs) ⊳ rest) 0
minis_fault ids (suc k) (x ∷ xs) = minis_fault ids k xs

unfoldable pub minis_end : ℕ → List ℕ → ℕ
minis_end k [] = k
minis_end zero (x ∷ xs) =
    let rest : ℕ = suc (minis_end (31 + mini_data (x ∷ xs)) xs) in
    cond (starts mini_label (x ∷ xs)) rest 0
minis_end (suc k) (x ∷ xs) = suc (minis_end k xs)

unfoldable pub minis_joined : List ℕ → ℕ → List ℕ → List ℕ
minis_joined id k [] = []
minis_joined id zero (x ∷ xs) =
    let rest : List ℕ = minis_joined id (31 + mini_data (x ∷ xs)) xs in
    cond (starts mini_label (x ∷ xs)) (cond (same (mini_id (x ∷ xs)) id) (part 32 (mini_data (x ∷ xs)) (x ∷ xs)) [] ++ rest) []
minis_joined id (suc k) (x ∷ xs) = minis_joined id k xs

-- ---- the contents

-- where the first mini-chunk must stand
unfoldable pub minis_place : List ℕ → ℕ
minis_place r = 65 + types_bytes (types_of r) (drop 65 r)

unfoldable pub declared_ids : List ℕ → List (List ℕ)
declared_ids r = type_ids (types_of r) (drop 65 r)

-- "type count outside 1 to 64" 7; "Where the first must stand, fewer than 10 bytes left are 4, other bytes 8."
unfoldable pub multi_fault : List ℕ → ℕ
multi_fault r =
    run multi_head r
    ⊳ require (leb 1 (types_of r) && leb (types_of r) 64) 7
    ⊳ run (lf ∷ []) (drop 64 r)
    ⊳ types_fault (types_of r) (multi_length r) 0 [] (drop 65 r)
    ⊳ field_fault 10 (λ v. require (same v mini_label) 8) (drop (minis_place r) r)
    ⊳ minis_fault (declared_ids r) 0 (drop (minis_place r) r)

unfoldable pub multi_bytes : List ℕ → ℕ
multi_bytes r = minis_place r + minis_end 0 (drop (minis_place r) r)

unfoldable pub multi_joined : List ℕ → List ℕ → List ℕ
multi_joined id r = minis_joined id 0 (drop (minis_place r) r)
