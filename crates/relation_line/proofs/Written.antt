-- A relation line put field by field, each with the byte behind it.
--     line-is     its fields one behind the other
--     line-long   its bytes
-- Assumes nothing.
use Prim.Native.Nat.{ℕ, ◌+◌, ◌-◌, ◌*◌, ◌≤◌}
use mathlib.Core.Path.{◌≡◌, refl}
use mathlib.Core.List.{List, [], ◌∷◌, ◌++◌, append_assoc}
use native.Mathlib.Omega.{arith}
use lib.ListN.{length, take, drop, length-append}
use Rattle.metafile.specs.Bytes.{bytes, part}
use Rattle.metafile.specs.Chunk.{sub_format, dependency_serial_of, dependency_sub_format_of}
use Rattle.metafile.specs.Relations.{divided, relation_name}
use Rattle.laws.proofs.Stages.{slice_is}
use Rattle.relation_line.specs.Form.{line_for}
use Rattle.laws.proofs.Lists.{part-long}
use Rattle.relation_line.proofs.Parents.{serial_place, name_place}

-- five fields, each with the byte behind it, as they are put
abbrev joined : List ℕ → List ℕ → List ℕ → List ℕ → List ℕ → List ℕ
joined a b c d e = ((((a ++ 9 ∷ []) ++ (b ++ 9 ∷ [])) ++ (c ++ 9 ∷ [])) ++ (d ++ 9 ∷ [])) ++ (e ++ 10 ∷ [])

joined_is : (a b c d e : List ℕ) → joined a b c d e ≡ divided 9 (a ∷ b ∷ c ∷ d ∷ e ∷ []) ++ 10 ∷ []
unfolding divided
joined_is a b c d e = simp append_assoc

module _ (serial s : List ℕ) (j : ℕ) where
  abbrev number : ℕ
  number = serial_place j

  abbrev name : ℕ
  name = name_place j

  pub line-is : joined (bytes "ADS relation") serial (part 46 256 s) (take (number + 38 - number) (drop number s))
      (take (name + 256 - name) (drop name s))
      ≡ line_for serial s j ++ 10 ∷ []
  unfolding relation_name sub_format dependency_serial_of dependency_sub_format_of
  line-is =
      rw (slice_is number (number + 38) 38 s refl, slice_is name (name + 256) 256 s refl)
      (joined_is (bytes "ADS relation") serial (part 46 256 s) (part number 38 s) (part name 256 s))

  pub line-long : length serial ≡ 38 → 568 + 344 * j + 344 ≤ length s → length (line_for serial s j ++ 10 ∷ []) ≡ 605
  unfolding divided relation_name sub_format dependency_serial_of dependency_sub_format_of
  line-long l h =
      simp length-append
      (omega (arith, part-long s 46 256 (omega arith), part-long s number 38 (omega arith), part-long s name 256 (omega arith)))
