-- Tests on bools and numbers that keep their equation, and the first fault of stages in a row.
--     test cases          go by the cases of a test or a number
--     and_both both-and   _&&_; or_left or_right or-false: _||_; is_zero-..: a number that is 0, or not
--     ⊳-left ⊳-right      stages that have no fault; ⊳-both: the other way; ⊳-stop, ⊳-go: one step
--     require-true ..     a required test
-- Assumes nothing.
use Prim.Native.Nat.{ℕ, zero, suc}
use mathlib.Core.Bool.{Bool, true, false, ◌&&◌, ◌||◌}
use mathlib.Core.Path.{◌≡◌, refl, sym}
use native.Mathlib.Omega.{arith}
use lib.Dec.{eqb}
use borrow.Author.Tests.{ne_eqb}
use Rattle.metafile.specs.Bytes.{◌⊳◌, require, choose, is_zero}

pub test : {A : Type 0} (b : Bool) → (b ≡ true → A) → (b ≡ false → A) → A
test true f g = f refl
test false f g = g refl

pub cases : {A : Type 0} (n : ℕ) → (n ≡ 0 → A) → ((k : ℕ) → n ≡ suc k → A) → A
cases zero f g = f refl
cases (suc n) f g = g n refl

pub untrue : {A : Type 0} → false ≡ true → A
untrue e = let z : ◌≡◌ {A = ℕ} 0 1 = cc in absurd (omega arith)

-- ---- bools

pub and_both : (a b : Bool) → (a && b) ≡ true → (a ≡ true) × (b ≡ true)
and_both true b e = (refl, e)
and_both false b e = untrue e

pub both-and : (a b : Bool) → a ≡ true → b ≡ true → (a && b) ≡ true
both-and a b p q = rw p q

pub or-false : (a b : Bool) → (a || b) ≡ false → (a ≡ false) × (b ≡ false)
or-false true b e = untrue (sym e)
or-false false b e = (refl, e)

pub or-true : {A : Type 0} (a b : Bool) → (a || b) ≡ true → (a ≡ true → A) → (b ≡ true → A) → A
or-true true b e f g = f refl
or-true false b e f g = g e

pub or_left : (a b : Bool) → a ≡ true → (a || b) ≡ true
or_left a b p = rw p

pub or_right : (a b : Bool) → b ≡ true → (a || b) ≡ true
or_right true b p = refl
or_right false b p = p

pub is_zero-zero : (n : ℕ) → is_zero n ≡ true → n ≡ 0
unfolding is_zero
is_zero-zero zero e = refl
is_zero-zero (suc n) e = untrue e

pub is_zero-is : (n : ℕ) → n ≡ 0 → is_zero n ≡ true
unfolding is_zero
is_zero-is n e = rw e

pub is_zero-not : (n : ℕ) → (n ≡ 0 → ⊥) → is_zero n ≡ false
unfolding is_zero
is_zero-not zero h = absurd (h refl)
is_zero-not (suc n) h = refl

-- as the code tests it
pub or-none : (a : Bool) → (a || false) ≡ a
or-none true = refl
or-none false = refl

pub is_zero-eqb : (n : ℕ) → eqb n 0 ≡ is_zero n
unfolding is_zero
is_zero-eqb zero = refl
is_zero-eqb (suc n) = ne_eqb (suc n) 0 (λ e. omega arith)

-- ---- the first fault

pub ⊳-left : (a b : ℕ) → a ⊳ b ≡ 0 → a ≡ 0
unfolding ◌⊳◌
⊳-left zero b e = refl
⊳-left (suc a) b e = e

pub ⊳-right : (a b : ℕ) → a ⊳ b ≡ 0 → b ≡ 0
unfolding ◌⊳◌
⊳-right zero b e = e
⊳-right (suc a) b e = absurd (omega arith)

pub ⊳-both : (a b : ℕ) → a ≡ 0 → b ≡ 0 → a ⊳ b ≡ 0
unfolding ◌⊳◌
⊳-both a b p q = rw p q

pub ⊳-assoc : (a b c : ℕ) → (a ⊳ b) ⊳ c ≡ a ⊳ (b ⊳ c)
unfolding ◌⊳◌
⊳-assoc zero b c = refl
⊳-assoc (suc a) b c = refl

-- the first stage has a fault: it is the answer; it has none: the next stage is
pub ⊳-stop : (a b : ℕ) → (a ≡ 0 → ⊥) → a ⊳ b ≡ a
unfolding ◌⊳◌
⊳-stop zero b n = absurd (n refl)
⊳-stop (suc a) b n = refl

pub ⊳-go : (a b : ℕ) → a ≡ 0 → a ⊳ b ≡ b
unfolding ◌⊳◌
⊳-go a b e = rw e

pub ⊳-none : (a : ℕ) → a ⊳ 0 ≡ a
unfolding ◌⊳◌
⊳-none zero = refl
⊳-none (suc a) = refl

-- ---- a required test

pub require-true : (b : Bool) (n : ℕ) → require b (suc n) ≡ 0 → b ≡ true
unfolding require
require-true true n e = refl
require-true false n e = absurd (omega arith)

pub require-met : (b : Bool) (n : ℕ) → b ≡ true → require b n ≡ 0
unfolding require
require-met b n e = rw e

pub require-unmet : (b : Bool) (n : ℕ) → b ≡ false → require b n ≡ n
unfolding require
require-unmet b n e = rw e

-- ---- go on, or stop with the number

pub choose-go : {A : Type 0} (n : ℕ) (go : A) (stop : ℕ → A) → n ≡ 0 → choose n go stop ≡ go
unfolding choose
choose-go n go stop e = rw e

pub choose-stop : {A : Type 0} (n : ℕ) (go : A) (stop : ℕ → A) → (n ≡ 0 → ⊥) → choose n go stop ≡ stop n
unfolding choose
choose-stop zero go stop e = absurd (e refl)
choose-stop (suc n) go stop e = refl
