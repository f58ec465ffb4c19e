-- Lists one behind the other, each but the last as long as the others.
--     pieces-long    their length, where all are as long
--     piece-at       the piece at a place
--     parts-joined   the parts of a list, one behind the other, are the list as far as they go
--     part-taken part-part   a part of the first bytes; a part of a part
-- Assumes nothing.
use Rattle.std.proofs.Common.{◌≡◌, ℕ, zero, suc, ◌+◌, ◌-◌, ◌*◌, ◌<◌, ◌≤◌, eqb, List, length, take, drop, sym, ◌∙◌, mul-le-mul_left, mul-zero, mul-suc, arith, length-append, take_all, take-take, drop-drop, take-add, drop_at, eqb-true}
use borrow.Author.Tests.{eqb-false}
use Rattle.metafile.specs.Bytes.{part}
use Rattle.metafile.specs.Below.{join_below}
use Rattle.laws.proofs.First.{test}
use Rattle.laws.proofs.Lists.{part-local, drop-take}

module _ (w : ℕ) (f : ℕ → List ℕ) where
  pub pieces-long : (n : ℕ) → ((k : ℕ) → k < n → length (f k) ≡ w) → length (join_below n f) ≡ w * n
  unfolding join_below
  pieces-long zero h = sym (mul-zero w)
  pieces-long (suc n) h =
      rw (mul-suc w n, length-append (join_below n f) (f n), pieces-long n (λ k l. h k (omega arith)), h n (omega arith))

  pub piece-at : (n i : ℕ) → ((k : ℕ) → k + 1 < n → length (f k) ≡ w) → ((k : ℕ) → k < n → length (f k) ≤ w) → i < n → part (w * i) w (join_below n f) ≡ f i
  unfolding join_below
  piece-at zero i whole most h = absurd (omega arith)
  piece-at (suc n) i whole most h =
      let long : length (join_below n f) ≡ w * n = pieces-long n (λ k l. whole k (omega arith)) in
      test (eqb i n)
      (λ q.
      let last : i ≡ n = eqb-true i n q in
      rw (last, drop_at (join_below n f) (f n) (w * n) long) (take_all w (f n) (most n (omega arith))))
      (λ q.
      let less : suc i ≤ n = omega (arith, eqb-false i n q) in
      part-local (w * i) w (join_below n f) (f n) (omega (arith, mul-le-mul_left w less, mul-suc w i))
      ∙ piece-at n i (λ k l. whole k (omega arith)) (λ k l. most k (omega arith)) less)

pub parts-joined : (w n : ℕ) (s : List ℕ) → join_below n (λ (i : ℕ). part (w * i) w s) ≡ take (w * n) s
unfolding join_below
parts-joined w zero s = rw (mul-zero w)
parts-joined w (suc n) s = rw (mul-suc w n, parts-joined w n s) (sym (take-add (w * n) w s))

-- the first bytes don't matter behind them
pub part-taken : (a n m : ℕ) (t : List ℕ) → a + n ≤ m → part a n (take m t) ≡ part a n t
part-taken a n m t h =
    let rest : m ≡ a + (m - a) = omega arith in
    rw (rest, drop-take a (m - a) t) (take-take n (m - a) (drop a t) (omega arith))

pub part-part : (p m a n : ℕ) (s : List ℕ) → a + n ≤ m → part a n (part p m s) ≡ part (p + a) n s
part-part p m a n s h = part-taken a n m (drop p s) h ∙ rw (drop-drop a p s)
