-- `sums::words::folded` meets its contract, by the law of the lanes. Assumes nothing.
use Rattle.std.proofs.Common.{◌≡◌, ℕ, ◌+◌, ◌-◌, ◌/◌, ◌%◌, ◌^◌, ◌<◌, refl, arith, lit≤}
use Rattle.sums.proofs.Lanes.{words-room, words-fold}
use Rattle.sums.proofs.words.folded.Goals as goal

both-fits : (e d : ℕ) → e < 2 ^ 63 → d < 2 ^ 64 → e + d / 256 < 2 ^ 64
both-fits e d h k = omega arith

left_is : (a e : ℕ) → a < 2 ^ 64 → e < 2 ^ 63 → ((a + (2 ^ 64 - e)) % 2 ^ 64 + e) % 2 ^ 64 ≡ a
left_is a e h k = omega arith

lanes_fit : (p : ℕ) → p < 2 ^ 64 → p % 65536 + p / 65536 % 65536 + p / 4294967296 % 65536 + p / 281474976710656 < 2 ^ 64
lanes_fit p h = omega arith

pub overflow_add-both : goal.overflow_add-both
overflow_add-both c = record { fits = both-fits _ _ (words-room c.requires.1 (lit≤ tt)) (omega arith) }

pub overflow_add-result-3 : goal.overflow_add-result-3
overflow_add-result-3 c = record { fits = lanes_fit _ (both-fits _ _ (words-room c.requires.1 (lit≤ tt)) (omega arith)) }

pub returns : goal.returns
returns c s x = words-fold x (lit≤ tt) _ _ (omega arith) (left_is _ _ c.ranges.all.fits (words-room x (lit≤ tt))) refl
