-- One chunk, read from its own place ("Chunk"): whole is every stage without a fault.
--     Whole, whole, unfaulted   a field for each stage, and the two ways between it and the first fault
--     fits-.. fits              the chunk lies inside its bytes
--     least progress            it takes at least 856 bytes
-- Assumes nothing.
use Prim.Native.Nat.{ℕ, ◌+◌, ◌*◌, ◌≤◌, ◌<◌}
use mathlib.Core.Bool.{Bool}
use mathlib.Core.Path.{◌≡◌}
use mathlib.Core.List.{List, [], ◌∷◌}
use native.Mathlib.Omega.{arith}
use lib.ListN.{length, drop, length-drop}
use Rattle.metafile.specs.Lines.{free, value, lf, size, run}
use Rattle.metafile.specs.Closing.{closing, closing_end}
use Rattle.metafile.specs.Chunk.{head, dependencies, is_multi, header_bytes_for, specific, lengths_fault, dependency_fields, specific_place, header_bytes, chunk_header_fault, contents_fault, contents_place, contents_bytes, closing_place, chunk_end, chunk_fault}
use Rattle.laws.proofs.First.{⊳-left, ⊳-right, ⊳-both}
use Rattle.laws.proofs.Table.{run-enough}
use Rattle.laws.proofs.Distances.{lines, size-head, size-dependencies, size-closing}
use Rattle.chunk_laws.proofs.Contents.{contents-least, contents-enough}

pub record Whole (llc : Bool) (m s : List ℕ) : Type 0 where
  pub in_head : run head s ≡ 0
  pub in-lengths : lengths_fault s ≡ 0
  pub in-dependencies : run (lf ∷ dependency_fields (dependencies s)) (drop 567 s) ≡ 0
  pub in-specific : run (value (free (specific s)) ∷ []) (drop (specific_place s) s) ≡ 0
  pub in-contents : contents_fault (is_multi s) llc m (drop (header_bytes s) s) ≡ 0
  pub in-closing : run (closing m) (drop (closing_place m s) s) ≡ 0

pub whole : (llc : Bool) (m s : List ℕ) → chunk_fault llc m s ≡ 0 → Whole llc m s
unfolding chunk_fault chunk_header_fault
whole llc m s e =
    let h = ⊳-left _ _ e in
    let h2 = ⊳-right _ _ h in
    let h3 = ⊳-right _ _ h2 in
    let e2 = ⊳-right _ _ e in
    record {
      in_head = ⊳-left _ _ h;
      in-lengths = ⊳-left _ _ h2;
      in-dependencies = ⊳-left _ _ h3;
      in-specific = ⊳-right _ _ h3;
      in-contents = ⊳-left _ _ e2;
      in-closing = ⊳-right _ _ e2;
    }

pub unfaulted : (llc : Bool) (m s : List ℕ) → Whole llc m s → chunk_fault llc m s ≡ 0
unfolding chunk_fault chunk_header_fault
unfaulted llc m s w =
    ⊳-both _ _ (⊳-both _ _ w.in_head (⊳-both _ _ w.in-lengths (⊳-both _ _ w.in-dependencies w.in-specific)))
    (⊳-both _ _ w.in-contents w.in-closing)

-- ---- the chunk lies inside its bytes

pub size-free : (n : ℕ) → size (value (free n) ∷ []) ≡ n
unfolding lines
size-free n = omega arith

pub size-behind-count : (n : ℕ) → size (lf ∷ dependency_fields n) ≡ 1 + 344 * n
unfolding lines
size-behind-count n = omega (arith, size-dependencies n)

module _ (llc : Bool) (m s : List ℕ) (w : Whole llc m s) where
  pub fits_head : 567 ≤ length s
  fits_head = omega (arith, run-enough head s w.in_head, size-head)

  pub fits-dependencies : 568 + 344 * dependencies s ≤ length s
  fits-dependencies =
      let h = simp (length-drop, size-behind-count) at (run-enough _ (drop 567 s) w.in-dependencies) in
      omega (arith, fits_head)

  pub fits-place : specific_place s ≤ length s
  unfolding specific_place header_bytes_for
  fits-place = omega (arith, fits-dependencies)

  pub fits-header : header_bytes s ≤ length s
  unfolding specific_place header_bytes header_bytes_for
  fits-header =
      let h = simp (length-drop, size-free) at (run-enough _ (drop (specific_place s) s) w.in-specific) in
      omega (arith, fits-dependencies)

  pub fits-contents : closing_place m s ≤ length s
  unfolding closing_place contents_place contents_bytes
  fits-contents =
      let h = simp length-drop at (contents-enough (is_multi s) llc m (drop (header_bytes s) s) w.in-contents) in
      omega (arith, fits-header)

  pub fits : chunk_end m s ≤ length s
  unfolding chunk_end closing_end
  fits =
      let h = simp (length-drop, size-closing) at (run-enough (closing m) (drop (closing_place m s) s) w.in-closing) in
      omega (arith, fits-contents)

-- "Empty contents, LLC000: count 1, chunk 856 bytes": none is shorter
pub least : (m s : List ℕ) → 856 ≤ chunk_end m s
unfolding chunk_end closing_end closing_place contents_place contents_bytes header_bytes header_bytes_for
least m s = omega (arith, contents-least (is_multi s) m (drop (header_bytes s) s))

pub progress : (m s : List ℕ) → 0 < chunk_end m s
progress m s = omega (arith, least m s)
