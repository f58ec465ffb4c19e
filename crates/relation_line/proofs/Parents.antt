-- What a chunk declares, compared with a relation line where its fields stand.
--     parent-not parent_by      one dependency and the line's parent
--     declares-not declares-is  the chunk's sub-format and the line's child
-- Assumes nothing.
use Prim.Native.Nat.{ℕ, ◌+◌, ◌-◌, ◌*◌}
use mathlib.Core.Bool.{Bool, true, false, ◌&&◌}
use mathlib.Core.Path.{◌≡◌, refl, sym, ◌∙◌}
use mathlib.Core.List.{List}
use native.Mathlib.Omega.{arith}
use lib.ListN.{take, drop}
use lib.Seq.{take-take}
use Rattle.metafile.specs.Bytes.{part, same}
use Rattle.metafile.specs.Fields.{same_serial}
use Rattle.metafile.specs.Chunk.{sub_format, dependency_serial_of, dependency_sub_format_of}
use Rattle.metafile.specs.Below.{any_below}
use Rattle.metafile.specs.Relations.{split_on, is_parent_of, chunk_declares}
use Rattle.laws.proofs.Stages.{slice_is}
use Rattle.relation_line.specs.Form.{Five}

-- ---- one dependency

-- where dependency j has its serial number and its sub-format
abbrev pub serial_place : ℕ → ℕ
serial_place j = 568 + 344 * j + 25

abbrev pub name_place : ℕ → ℕ
name_place j = 568 + 344 * j + 87

module _ (line s : List ℕ) (j : ℕ) (f : Five line) where
  parent_is : is_parent_of (split_on 9 line) s j
      ≡ (same (part (serial_place j) 35 s) (part 309 35 line) && same (part (name_place j) 256 s) (part 348 256 line))
  unfolding is_parent_of same_serial dependency_serial_of dependency_sub_format_of
  parent_is =
      rw (
        f.parent_serial,
        f.parent_name,
        take-take 35 38 (drop (serial_place j) s) (omega arith),
        take-take 35 38 (drop 309 line) (omega arith),
      )

  module _ (a : Bool) (e : a ≡ same (take (serial_place j + 35 - serial_place j) (drop (serial_place j) s)) (part 309 35 line)) where
    serials : a ≡ same (part (serial_place j) 35 s) (part 309 35 line)
    serials = rw (slice_is (serial_place j) (serial_place j + 35) 35 s refl) at e

    pub parent-not : a ≡ false → false ≡ is_parent_of (split_on 9 line) s j
    parent-not q = sym (parent_is ∙ rw (← serials, q))

    pub parent_by : (b : Bool) → a ≡ true → b ≡ same (take (name_place j + 256 - name_place j) (drop (name_place j) s)) (part 348 256 line)
        → b ≡ is_parent_of (split_on 9 line) s j
    parent_by b q h = rw (slice_is (name_place j) (name_place j + 256) 256 s refl) at h ∙ sym (parent_is ∙ rw (← serials, q))

-- ---- the chunk

module _ (line s : List ℕ) (n : ℕ) (f : Five line) (b : Bool) (e : b ≡ same (part 46 256 s) (part 52 256 line)) where
  pub declares-not : b ≡ false → false ≡ chunk_declares (split_on 9 line) s n
  unfolding chunk_declares sub_format
  declares-not q = sym (rw (f.child_name, ← e, q))

  pub declares-is : b ≡ true → chunk_declares (split_on 9 line) s n ≡ any_below n (is_parent_of (split_on 9 line) s)
  unfolding chunk_declares sub_format
  declares-is q = rw (f.child_name, ← e, q)
