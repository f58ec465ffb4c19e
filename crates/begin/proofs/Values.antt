-- Bytes put at the start of a buffer, and others behind them, as begin does it: the 65 bytes, the closing behind them.
--     placed-behind   bytes behind bytes
--     title-put       strategy and mark length
-- Assumes nothing.
use Prim.Native.Nat.{ℕ, ◌+◌}
use mathlib.Core.Path.{◌≡◌}
use mathlib.Core.List.{List, ◌++◌, append_assoc}
use native.Mathlib.Omega.{arith}
use lib.ListN.{length, drop, length-append}
use lib.Seq.{drop-drop, take-append_seam, drop-append-add}
use Rattle.metafile.specs.Fields.{digits_of}
use Rattle.metafile.specs.Answers.{placed}
use Rattle.laws.proofs.Digits.{length-digits_of}
use Rattle.laws.proofs.Loops.{placed-over}

pub placed-behind : (v w buffer : List ℕ) → placed (length v) w (placed 0 v buffer) ≡ placed 0 (v ++ w) buffer
unfolding placed
placed-behind v w buffer =
    let end : 0 + length v + length w ≡ 0 + length (v ++ w) = omega (arith, length-append v w) in
    rw (
      take-append_seam v (drop (0 + length v) buffer),
      drop-append-add v (drop (0 + length v) buffer) (length w),
      drop-drop (length w) (0 + length v) buffer,
      end,
      append_assoc v w,
    )

-- the strategy, and the mark length in three digits
pub title-put : (s : List ℕ) (n at : ℕ) (b b₁ b₂ : List ℕ) → length s ≡ 3 → length b ≡ 6 → at ≡ 0 + length s → b₁ ≡ placed 0 s b → b₂ ≡ placed at (digits_of 3 n) b₁
    → b₂ ≡ s ++ digits_of 3 n
title-put s n at b b₁ b₂ hs hb ha e₁ e₂ =
    let place : at ≡ length s = omega arith in
    let long : length (s ++ digits_of 3 n) ≡ length b = simp length-append (omega (arith, length-digits_of 3 n)) in
    rw (e₂, e₁, place, placed-behind s (digits_of 3 n) b) (placed-over (s ++ digits_of 3 n) b long)
