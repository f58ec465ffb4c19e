-- The contents of a chunk, over the bytes r that follow the header ("Contents: ..").
--     line-..     the content length line
--     data-open data-counted   the data's bytes
--     plain-..    the answers on plain contents
--     contents-.. from-..   contents of either sort
--     whole-..    the bytes of whole contents
-- Assumes nothing.
use Prim.Native.Nat.{ℕ, zero, suc, ◌+◌, ◌-◌, ◌≤◌, ◌<◌}
use mathlib.Core.Bool.{Bool, true, false, ◌&&◌}
use mathlib.Core.Path.{◌≡◌, refl, sym, ap, ◌∙◌}
use mathlib.Core.List.{List, [], ◌∷◌, ◌++◌, append-nil}
use native.Mathlib.Omega.{arith}
use lib.Dec.{eqb}
use lib.ListN.{length, take, drop}
use lib.Seq.{drop-drop}
use Rattle.metafile.specs.Bytes.{◌⊳◌, require, is_zero, find}
use Rattle.metafile.specs.Lines.{free, Field, value, lf, opened, size, run, table, content_length}
use Rattle.metafile.specs.Chunk.{content_count, data_bytes, plain_bytes, plain_fault, contents_fault, contents_from, contents_long}
use Rattle.table.specs.Codes.{line_no}
use Rattle.lines.specs.Parts.{field_no}
use Rattle.laws.proofs.First.{⊳-left, ⊳-right, ⊳-assoc, is_zero-eqb}
use Rattle.laws.proofs.Loops.{part-drop}
use Rattle.laws.proofs.Table.{run-enough, run-split}
use Rattle.laws.proofs.Distances.{lines}
use Rattle.chunk_laws.proofs.Contents.{size-opened}
use Rattle.chunk.specs.Layout.{length_line_fault, plain_part, contents_part}
use Rattle.multi.specs.Part.{Part, multi_part}
use Rattle.laws.proofs.Stages.{stop, go, fits}
use Rattle.chunk.proofs.Stages.{free-short, free-long, part-fault, part-whole, part-number, part_bytes}

-- ---- the content length line

is-line : opened (line_no 11) ≡ opened content_length
unfolding line_no table
is-line = refl

pub line-bad : (llc : Bool) (r : List ℕ) (f : ℕ) → f ≡ run (opened (line_no 11)) r → (f ≡ 0 → ⊥) → f ≡ length_line_fault llc r
unfolding length_line_fault
line-bad llc r f e n = stop _ _ f (rw is-line at e) n

-- label and digits have no fault, and the count is k
module _ (llc : Bool) (r : List ℕ) (z : run (opened (line_no 11)) r ≡ 0) where
  pub line-long : 33 ≤ length r
  line-long = rw size-opened at (run-enough (opened content_length) r (rw is-line at z))

  module _ (k : ℕ) (e : k ≡ content_count r) where
    refused : (llc && eqb k 0) ≡ (llc && is_zero (content_count r))
    refused = rw (← e, is_zero-eqb k)

    pub line-none : (llc && eqb k 0) ≡ true → 7 ≡ length_line_fault llc r
    unfolding length_line_fault require ◌⊳◌
    line-none q = go _ _ _ (rw is-line at z) (rw (sym refused ∙ q))

    pub line-end : (llc && eqb k 0) ≡ false → (at g : ℕ) → at ≡ size (opened (line_no 11)) → g ≡ run (field_no 11 2 ∷ []) (drop at r) → g ≡ length_line_fault llc r
    unfolding length_line_fault require ◌⊳◌ field_no lf opened
    line-end q at g p e =
        let place : at ≡ 33 = p ∙ ap size is-line ∙ size-opened in
        go _ _ _ (rw is-line at z) (rw (sym refused ∙ q) (rw place at e))

-- a line without a fault ends inside
pub line-whole : (llc : Bool) (r : List ℕ) → length_line_fault llc r ≡ 0 → 34 ≤ length r
unfolding length_line_fault lines
line-whole llc r e =
    let a = rw size-opened at (run-enough (opened content_length) r (⊳-left _ _ e)) in
    fits (lf ∷ []) 1 33 r refl a (⊳-right _ _ (⊳-right _ _ e))

-- ---- the data

pub data-open : (m rest : List ℕ) (count n : ℕ) → count ≡ 0 → n ≡ find m (rest ++ take 0 rest) → n ≡ data_bytes m count rest
unfolding data_bytes
data-open m rest count n z e = rw z (rw append-nil at e)

pub data-counted : (m rest : List ℕ) (count : ℕ) → (count ≡ 0 → ⊥) → count - 1 ≡ data_bytes m count rest
unfolding data_bytes
data-counted m rest zero n = absurd (n refl)
data-counted m rest (suc k) n = omega arith

-- ---- plain contents

plain-split : (llc : Bool) (m r : List ℕ) → plain_fault llc m r ≡ length_line_fault llc r ⊳ run (value (free (plain_bytes m r)) ∷ []) (drop 34 r)
unfolding plain_fault length_line_fault lines
plain-split llc m r =
    let v : Field = value (free (plain_bytes m r)) in
    rw (run-split (lf ∷ []) (v ∷ []) (drop 33 r), drop-drop 1 33 r, ⊳-assoc, ⊳-assoc)

pub plain-bytes-is : (m r : List ℕ) (k n : ℕ) → k ≡ content_count r → n ≡ data_bytes m k (take (length r - 34) (drop 34 r)) → n ≡ plain_bytes m r
unfolding plain_bytes
plain-bytes-is m r k n ek e = rw (part-drop, ek) at e

pub plain-line : (llc : Bool) (m r : List ℕ) (f : ℕ) → f ≡ length_line_fault llc r → (f ≡ 0 → ⊥) → record { number = f; bytes = 0 } ≡ plain_part llc m r
unfolding plain_part
plain-line llc m r f e n = part-fault _ _ f (rw plain-split (stop _ _ f e n)) n

module _ (llc : Bool) (m r : List ℕ) (z : length_line_fault llc r ≡ 0) (n : ℕ) (e : n ≡ plain_bytes m r) where
  pub plain-short : length r < 34 + n → record { number = 4; bytes = 0 } ≡ plain_part llc m r
  unfolding plain_part
  plain-short h =
      let k = free-short 34 (plain_bytes m r) r (line-whole llc r z) (omega arith) in
      part-fault _ _ 4 (rw plain-split (go _ _ 4 z k)) (λ q. absurd (omega arith))

  pub plain-whole : 34 + n ≤ length r → record { number = 0; bytes = n } ≡ plain_part llc m r
  unfolding plain_part
  plain-whole h =
      let k = free-long 34 (plain_bytes m r) r (omega arith) in
      part-whole _ _ n (rw plain-split (go _ _ 0 z k)) e

-- ---- contents of either sort

pub contents-multi : (b llc : Bool) (m r : List ℕ) (p : Part) → b ≡ true → p ≡ multi_part r → p ≡ contents_part b llc m r
unfolding contents_part multi_part contents_fault contents_long
contents-multi b llc m r p t e = rw t e

pub contents-plain : (b llc : Bool) (m r : List ℕ) (p : Part) → b ≡ false → p ≡ plain_part llc m r → p ≡ contents_part b llc m r
unfolding contents_part plain_part contents_fault contents_long
contents-plain b llc m r p t e = rw t e

pub from-multi : (b : Bool) → b ≡ true → 0 ≡ contents_from b
unfolding contents_from
from-multi b t = rw t

pub from-plain : (b : Bool) → b ≡ false → 34 ≡ contents_from b
unfolding contents_from
from-plain b t = rw t

-- ---- whole contents

module _ (b llc : Bool) (m r : List ℕ) (z : contents_fault b llc m r ≡ 0) where
  pub whole-multi : (p : Part) → b ≡ true → p ≡ multi_part r → p.bytes ≡ contents_long b m r
  unfolding contents_part
  whole-multi p t e =
      let is = contents-multi b llc m r p t e in
      part_bytes _ _ p is (part-number _ _ p is ∙ z)

  pub whole-line : b ≡ false → 34 ≤ length r
  unfolding contents_fault
  whole-line t = line-whole llc r (⊳-left _ _ (sym (plain-split llc m r) ∙ (rw t at z)))

  pub whole_plain : (n : ℕ) → b ≡ false → n ≡ plain_bytes m r → n ≡ contents_long b m r
  unfolding contents_long
  whole_plain n t e = rw t e
