-- Stages in a row as code goes through them ("Fields are read in file order", the first fault counts), and bytes at a
-- place.
--     stop go           a stage's fault is the answer; it has none, and the answer of the rest is the answer
--     unmet met         the same for a required test
--     run-one           a run over one field
--     none              what a call answered, and its test, as a fact on the definition
--     slice_is slice-length part_at   the bytes that a call is lent; the same bytes counted from another place
--     compared          bytes compared with a part
--     fits              a stretch that passes ends inside
--     free-..           a run of bytes of any value
-- Assumes nothing.
use Prim.Native.Nat.{ℕ, suc, ◌+◌, ◌-◌, ◌≤◌, ◌<◌}
use mathlib.Core.Bool.{Bool, true, false}
use mathlib.Core.Path.{◌≡◌, sym, ◌∙◌}
use mathlib.Core.List.{List, [], ◌∷◌}
use native.Mathlib.Omega.{arith}
use lib.ListN.{length, take, drop, length-drop}
use lib.Seq.{drop-drop, length-take-le}
use Rattle.metafile.specs.Bytes.{part, ◌⊳◌, require, same}
use Rattle.metafile.specs.Lines.{free, Field, value, size, free_fault, kind_fault, fault, run}
use Rattle.laws.proofs.First.{⊳-stop, ⊳-go, ⊳-none}
use Rattle.laws.proofs.Table.{field-short, field-long, run-enough}

-- ---- one stage

pub none : {f a : ℕ} → f ≡ a → f ≡ 0 → a ≡ 0
none e z = sym e ∙ z

pub stop : (a b f : ℕ) → f ≡ a → (f ≡ 0 → ⊥) → f ≡ a ⊳ b
stop a b f e n = e ∙ sym (⊳-stop a b (λ z. n (e ∙ z)))

pub go : (a b g : ℕ) → a ≡ 0 → g ≡ b → g ≡ a ⊳ b
go a b g z q = q ∙ sym (⊳-go a b z)

pub unmet : (b : Bool) (n m : ℕ) → b ≡ false → suc n ≡ require b (suc n) ⊳ m
unfolding require ◌⊳◌
unmet b n m e = rw e

pub met : (b : Bool) (n m g : ℕ) → b ≡ true → g ≡ m → g ≡ require b n ⊳ m
unfolding require ◌⊳◌
met b n m g e q = rw e q

-- one field
pub run-one : (f : Field) (s : List ℕ) → run (f ∷ []) s ≡ fault f s
unfolding run
run-one f s = ⊳-none (fault f s)

-- ---- places

pub slice_is : (a b n : ℕ) (s : List ℕ) → b ≡ a + n → take (b - a) (drop a s) ≡ part a n s
slice_is a b n s e = let d : b - a ≡ n = omega arith in rw d

pub slice-length : (a b n : ℕ) (s : List ℕ) → b ≡ a + n → b ≤ length s → length (take (b - a) (drop a s)) ≡ n
slice-length a b n s e h = rw (slice_is a b n s e) (length-take-le n (drop a s) (simp length-drop (omega arith)))

pub part_at : (a p n : ℕ) (s : List ℕ) → part (a + p) n s ≡ part p n (drop a s)
part_at a p n s = rw (drop-drop p a s)

-- bytes compared with a part, which a test then told
pub compared : (x y : Bool) (id : List ℕ) (a b n : ℕ) (s : List ℕ) → x ≡ same id (take (b - a) (drop a s)) → b ≡ a + n → x ≡ y
    → same id (part a n s) ≡ y
compared x y id a b n s e q t = rw (slice_is a b n s q) at (sym e ∙ t)

-- ---- stretches at a place

pub fits : (fs : List Field) (n p : ℕ) (s : List ℕ) → size fs ≡ n → p ≤ length s → run fs (drop p s) ≡ 0 → p + n ≤ length s
fits fs n p s z h e =
    let a = simp length-drop at (run-enough fs (drop p s) e) in
    omega arith

module _ (n p : ℕ) (s : List ℕ) (h : p ≤ length s) where
  pub free-short : length s - p < n → 4 ≡ fault (value (free n)) (drop p s)
  unfolding fault kind_fault
  free-short k = sym (field-short n free_fault (drop p s) (simp length-drop k))

  pub free-long : n ≤ length s - p → 0 ≡ fault (value (free n)) (drop p s)
  unfolding fault kind_fault free_fault
  free-long k = sym (field-long n free_fault (drop p s) (simp length-drop k))
