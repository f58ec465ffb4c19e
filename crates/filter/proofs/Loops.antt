-- What the functions of src/lib.rt need of the definitions in specs/Filter.
--     bits_are       two shifts are the bits of a number
-- Assumes nothing.
use Prim.Native.Nat.{ℕ, ◌*◌, ◌/◌, ◌%◌, ◌^◌, ◌<◌}
use mathlib.Core.Path.{◌≡◌, ap₂, ◌∙◌}
use native.Mathlib.Nat.{one-mul}
use native.Mathlib.Omega.{arith}
use lib.Bits.{bit_or}
use lib.Pow.{shl_exact}
use Rattle.filter.specs.Filter.{bits_of}

shifted : (k : ℕ) → k < 32 → 1 * 2 ^ k % 2 ^ 32 ≡ 2 ^ k
shifted k h = shl_exact 1 k 32 (omega arith) (omega arith) ∙ one-mul (2 ^ k)

pub bits_are : (n : ℕ) → bit_or (1 * 2 ^ (n / 196613 % 32) % 2 ^ 32) (1 * 2 ^ (n / 6291616 % 32) % 2 ^ 32) ≡ bits_of n
unfolding bits_of
bits_are n = ap₂ bit_or (shifted (n / 196613 % 32) (omega arith)) (shifted (n / 6291616 % 32) (omega arith))
