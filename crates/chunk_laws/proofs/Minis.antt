-- The mini-chunks of a MultiChunk ("Mini-chunks go on while the next 10 bytes are "MiniChunk=""): a walk down the
-- bytes, of which it has k still to pass over before the next mini-chunk.
--     size-mini-name size-mini-data mini-fits   the sizes of a mini-chunk's lines; one that passes fits
--     minis-enough   a walk that passes ends inside
--     minis-local    where 10 bytes follow its end, a label's length, more bytes behind change nothing
-- Assumes nothing.
use Prim.Native.Nat.{ℕ, zero, suc, ◌+◌, ◌≤◌}
use mathlib.Core.Path.{◌≡◌, refl, ap, ◌∙◌}
use mathlib.Core.List.{List, [], ◌∷◌, ◌++◌}
use native.Mathlib.Omega.{arith}
use lib.ListN.{length, drop, length-drop}
use Rattle.metafile.specs.Bytes.{starts}
use Rattle.metafile.specs.Fields.{count_value}
use Rattle.metafile.specs.Lines.{text, free, i12, fixed, value, size}
use Rattle.metafile.specs.Multi.{mini_label, mini_id, mini_data, mini_fault, minis_fault, minis_end}
use Rattle.laws.proofs.First.{test, ⊳-left, ⊳-right, ⊳-both}
use Rattle.laws.proofs.Lists.{part-local, starts-local}
use Rattle.laws.proofs.Table.{run-enough, run-local}
use Rattle.laws.proofs.Distances.{lines}
use Rattle.chunk_laws.proofs.Types.{stretch-local}

pub size-mini-name : size (fixed mini_label ∷ value (text 10) ∷ []) ≡ 20
unfolding lines mini_label
size-mini-name = refl

pub size-mini-data : (n : ℕ) → size (value i12 ∷ value (free n) ∷ []) ≡ 12 + n
unfolding lines
size-mini-data n = omega arith

pub mini-fits : (ids : List (List ℕ)) (t : List ℕ) → mini_fault ids t ≡ 0 → 32 + mini_data t ≤ length t
unfolding mini_fault
mini-fits ids t e =
    let a = rw size-mini-name at (run-enough _ t (⊳-left _ _ e)) in
    let b = simp (length-drop, size-mini-data) at (run-enough _ (drop 20 t) (⊳-right _ _ (⊳-right _ _ e))) in
    omega arith

mini_data-local : (t u : List ℕ) → 32 ≤ length t → mini_data (t ++ u) ≡ mini_data t
unfolding mini_data
mini_data-local t u h = ap count_value (part-local 20 12 t u h)

mini-local : (ids : List (List ℕ)) (t u : List ℕ) → mini_fault ids t ≡ 0 → mini_fault ids (t ++ u) ≡ 0
unfolding mini_fault mini_id
mini-local ids t u e =
    let f = mini-fits ids t e in
    let e2 = ⊳-right _ _ e in
    ⊳-both _ _ (run-local _ t u (run-enough _ t (⊳-left _ _ e)) ∙ ⊳-left _ _ e)
    (⊳-both _ _ (rw (part-local 10 10 t u (omega arith)) (⊳-left _ _ e2))
    (rw (mini_data-local t u (omega arith)) (stretch-local _ 20 t u (omega arith) (⊳-right _ _ e2))))

pub minis-enough : (ids : List (List ℕ)) (k : ℕ) (s : List ℕ) → k ≤ length s → minis_fault ids k s ≡ 0 → minis_end k s ≤ length s
unfolding minis_fault minis_end
minis-enough ids k [] h e = h
minis-enough ids zero (x ∷ xs) h e =
    test (starts mini_label (x ∷ xs))
    (λ q.
    let f = rw q at e in
    let r = mini-fits ids (x ∷ xs) (⊳-left _ _ f) in
    let ih = minis-enough ids (31 + mini_data (x ∷ xs)) xs (omega arith) (⊳-right _ _ f) in
    rw q (omega arith))
    (λ q. rw q (omega arith))
minis-enough ids (suc k) (x ∷ xs) h e = let ih = minis-enough ids k xs (omega arith) e in omega arith

label-fits : (s : List ℕ) → 10 ≤ length s → length mini_label ≤ length s
unfolding mini_label
label-fits s h = h

pub minis-local : (ids : List (List ℕ)) (k : ℕ) (s t : List ℕ) → minis_fault ids k s ≡ 0 → minis_end k s + 10 ≤ length s
    → (minis_fault ids k (s ++ t) ≡ 0) × (minis_end k (s ++ t) ≡ minis_end k s)
unfolding minis_fault minis_end
minis-local ids k [] t e h = absurd (omega arith)
minis-local ids zero (x ∷ xs) t e h =
    let same_start : starts mini_label (x ∷ (xs ++ t)) ≡ starts mini_label (x ∷ xs) = starts-local mini_label (x ∷ xs) t (label-fits (x ∷ xs) (omega arith)) in
    test (starts mini_label (x ∷ xs))
    (λ q.
    let f = rw q at e in
    let g = rw q at h in
    let n : ℕ = mini_data (x ∷ xs) in
    let r = mini-fits ids (x ∷ xs) (⊳-left _ _ f) in
    let same-data : mini_data (x ∷ (xs ++ t)) ≡ n = mini_data-local (x ∷ xs) t (omega arith) in
    let ih = minis-local ids (31 + n) xs t (⊳-right _ _ f) (omega arith) in
    rw (same_start, q, same-data) (⊳-both _ _ (mini-local ids (x ∷ xs) t (⊳-left _ _ f)) ih.0, ap suc ih.1))
    (λ q. rw (same_start, q) (refl, refl))
minis-local ids (suc k) (x ∷ xs) t e h = let ih = minis-local ids k xs t e (omega arith) in (ih.0, ap suc ih.1)
