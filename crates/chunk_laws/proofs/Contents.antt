-- The contents of either sort, over what follows the header ("Contents: .."): those of a MultiChunk (true) or plain
-- ones (false). A chunk's laws see only these.
--     contents-enough   they lie inside
--     contents-least    with the content length line they take at least 34 bytes
--     contents-local contents_long-local   the same with more bytes behind, if a mark and 10 bytes still follow them
-- Assumes nothing.
use Prim.Native.Nat.{ℕ, zero, suc, ◌+◌, ◌≤◌}
use mathlib.Core.Bool.{Bool, true, false}
use mathlib.Core.Path.{◌≡◌, refl, ap, ◌∙◌}
use mathlib.Core.List.{List, [], ◌∷◌, ◌++◌}
use native.Mathlib.Omega.{arith}
use lib.ListN.{length, drop, length-drop}
use lib.Seq.{drop-append-le}
use Rattle.metafile.specs.Fields.{count_value}
use Rattle.metafile.specs.Lines.{free, value, lf, opened, size, content_length}
use Rattle.metafile.specs.Chunk.{content_count, data_bytes, plain_bytes, plain_fault, contents_fault, contents_from, contents_long}
use Rattle.laws.proofs.First.{⊳-left, ⊳-right, ⊳-both}
use Rattle.laws.proofs.Lists.{part-local, find-local}
use Rattle.laws.proofs.Table.{run-enough, run-local}
use Rattle.laws.proofs.Distances.{lines}
use Rattle.chunk_laws.proofs.Types.{stretch-local}
use Rattle.chunk_laws.proofs.Multi.{multi-whole, multi-enough, multi-least, multi_bytes-local, multi-local}

-- ---- plain contents

pub size-opened : size (opened content_length) ≡ 33
unfolding lines
size-opened = refl

size-data : (n : ℕ) → size (lf ∷ value (free n) ∷ []) ≡ 1 + n
unfolding lines
size-data n = omega arith

plain-enough : (llc : Bool) (m r : List ℕ) → plain_fault llc m r ≡ 0 → 34 + plain_bytes m r ≤ length r
unfolding plain_fault
plain-enough llc m r e =
    let a = rw size-opened at (run-enough (opened content_length) r (⊳-left _ _ e)) in
    let b = simp (length-drop, size-data) at (run-enough _ (drop 33 r) (⊳-right _ _ (⊳-right _ _ e))) in
    omega arith

data_bytes-local : (m : List ℕ) (n : ℕ) (r t : List ℕ) → data_bytes m n r + length m ≤ length r → data_bytes m n (r ++ t) ≡ data_bytes m n r
unfolding data_bytes
data_bytes-local m zero r t h = find-local m r t h
data_bytes-local m (suc n) r t h = refl

module _ (llc : Bool) (m r t : List ℕ) (e : plain_fault llc m r ≡ 0) (h : 34 + plain_bytes m r + length m ≤ length r) where
  content_count-local : content_count (r ++ t) ≡ content_count r
  unfolding content_count
  content_count-local = ap count_value (part-local 21 12 r t (omega arith))

  plain_bytes-local : plain_bytes m (r ++ t) ≡ plain_bytes m r
  unfolding plain_bytes
  plain_bytes-local =
      let k : 34 ≤ length r = omega arith in
      rw (content_count-local, drop-append-le 34 r t k) (data_bytes-local m _ (drop 34 r) t (simp length-drop (omega arith)))

  plain_local : plain_fault llc m (r ++ t) ≡ 0
  unfolding plain_fault
  plain_local =
      let e2 = ⊳-right _ _ e in
      ⊳-both _ _ (run-local (opened content_length) r t (run-enough _ r (⊳-left _ _ e)) ∙ ⊳-left _ _ e)
      (⊳-both _ _ (rw content_count-local (⊳-left _ _ e2))
      (rw plain_bytes-local (stretch-local _ 33 r t (omega arith) (⊳-right _ _ e2))))

-- ---- either sort

pub contents-least : (b : Bool) (m r : List ℕ) → 34 ≤ contents_from b + contents_long b m r
unfolding contents_from contents_long
contents-least true m r = omega (arith, multi-least r)
contents-least false m r = omega arith

pub contents-enough : (b llc : Bool) (m r : List ℕ) → contents_fault b llc m r ≡ 0 → contents_from b + contents_long b m r ≤ length r
unfolding contents_fault contents_from contents_long
contents-enough true llc m r e = omega (arith, multi-enough r (multi-whole r e))
contents-enough false llc m r e = plain-enough llc m r e

pub contents-local : (b llc : Bool) (m r t : List ℕ) → contents_fault b llc m r ≡ 0
    → contents_from b + contents_long b m r + (length m + 10) ≤ length r → contents_fault b llc m (r ++ t) ≡ 0
unfolding contents_fault contents_from contents_long
contents-local true llc m r t e h = multi-local r (multi-whole r e) t (omega arith)
contents-local false llc m r t e h = plain_local llc m r t e (omega arith)

pub contents_long-local : (b llc : Bool) (m r t : List ℕ) → contents_fault b llc m r ≡ 0
    → contents_from b + contents_long b m r + (length m + 10) ≤ length r → contents_long b m (r ++ t) ≡ contents_long b m r
unfolding contents_fault contents_from contents_long
contents_long-local true llc m r t e h = multi_bytes-local r (multi-whole r e) t (omega arith)
contents_long-local false llc m r t e h = plain_bytes-local llc m r t e (omega arith)
