-- The contents of a MultiChunk that a row names ("its first line"), and short IDs.
--     contents-of          they are what follows the contents place that the walk found; multi-whole: they have no fault
--     undeclared           a text of more than 10 bytes is no declared short ID
--     padded-is            spaces behind the bytes given
-- Assumes nothing.
use Prim.Native.Nat.{ℕ, zero, suc, ◌+◌, ◌-◌, ◌≤◌, ◌<◌}
use mathlib.Core.Bool.{Bool, true, false}
use mathlib.Core.Path.{◌≡◌, refl, sym, ap, ◌∙◌}
use mathlib.Core.List.{List, ◌++◌}
use native.Mathlib.Omega.{arith}
use native.Mathlib.Numerals.{unary_clauses}
use lib.ListN.{length, take, drop, replicate, length-append, length-take}
use lib.Seq.{drop-drop}
use Rattle.metafile.specs.declared.Row.{Row}
use Rattle.metafile.specs.Bytes.{same, member}
use Rattle.metafile.specs.Fields.{padded}
use Rattle.metafile.specs.Header.{is_llc, mark_of}
use Rattle.metafile.specs.Multi.{type_bytes, type_id, types_of, type_ids, declared_ids, multi_fault}
use Rattle.metafile.specs.Chunk.{is_multi, header_bytes, contents_fault, contents_from, contents_place, row_at}
use Rattle.metafile.specs.Reading.{rows_of}
use Rattle.metafile.specs.Append.{row_no}
use Rattle.metafile.specs.Calls.{multi_of}
use Rattle.laws.proofs.First.{test}
use Rattle.laws.proofs.Lists.{same-eq}
use Rattle.laws.proofs.Loops.{part-drop}
use Rattle.walk.specs.declared.cursor.Cursor.{Cursor}
use Rattle.walk.proofs.Named.{Named}
use Rattle.chunk_laws.proofs.Places.{Placed, row-placed}

-- ---- the contents

module _ (llc : Bool) (m file : List ℕ) (r : Row) (w : Placed llc m file r) (e : r.multichunk ≡ true) where
  multi-is : is_multi (drop r.place file) ≡ true
  unfolding row_at
  multi-is = sym (ap (λ (x : Row). x.multichunk) w.row) ∙ e

  contents-is : r.contents ≡ r.place + header_bytes (drop r.place file)
  unfolding row_at contents_place contents_from
  contents-is =
      let from : contents_from (is_multi (drop r.place file)) ≡ 0 = ap contents_from multi-is in
      let c = ap (λ (x : Row). x.contents) w.row in
      omega arith

  pub placed-multi : multi_fault (drop r.contents file) ≡ 0
  unfolding contents_fault
  placed-multi =
      let here = drop-drop (header_bytes (drop r.place file)) r.place file ∙ ap (λ (n : ℕ). drop n file) (sym contents-is) in
      ap multi_fault (sym here)
      ∙ ap (λ (b : Bool). contents_fault b llc m (drop (header_bytes (drop r.place file)) (drop r.place file))) (sym multi-is)
      ∙ w.chunk.in-contents

module _ (file : List ℕ) (k : ℕ) (f : Cursor) (w : Named file k f) where
  pub contents-of : take (length file - (f.at + f.layout.contents)) (drop (f.at + f.layout.contents) file) ≡ multi_of file k
  unfolding multi_of
  contents-of = part-drop file (f.at + f.layout.contents) ∙ ap (λ (n : ℕ). drop n file) w.contents-is

  pub multi-whole : f.layout.multichunk ≡ true → multi_fault (multi_of file k) ≡ 0
  unfolding multi_of
  multi-whole e =
      placed-multi (is_llc file) (mark_of file) file (row_no (rows_of file) k) (row-placed file k w.in_rows) (sym w.multichunk-is ∙ e)

-- ---- short IDs

id-length : (t : List ℕ) → length (type_id t) ≤ 10
unfolding type_id
id-length t = simp length-take (omega arith)

not-among : (x : List ℕ) (n : ℕ) (t : List ℕ) → 10 < length x → member x (type_ids n t) ≡ false
unfolding type_ids member
not-among x zero t h = refl
not-among x (suc n) t h =
    test (same x (type_id t))
    (λ q. absurd (omega (arith, id-length t, ap length (same-eq x (type_id t) q))))
    (λ q. rw q (not-among x n (drop (type_bytes t) t) h))

pub undeclared : (id r : List ℕ) → 10 < length id → member (padded 10 id) (declared_ids r) ≡ false
unfolding declared_ids padded
undeclared id r h = not-among _ (types_of r) (drop 65 r) (simp length-append (omega arith))

drop-spaces : (n i : ℕ) → drop {A = ℕ} i (replicate n 32) ≡ replicate (n - i) 32
drop-spaces n zero = simp unary_clauses
drop-spaces zero (suc i) = let none : 0 - suc i ≡ 0 = omega arith in rw none
drop-spaces (suc n) (suc i) = simp unary_clauses (drop-spaces n i)

pub padded-is : (id : List ℕ) → id ++ drop (length id) (replicate 10 32) ≡ padded 10 id
unfolding padded
padded-is id = rw (drop-spaces 10 (length id))
