-- A run of free bytes, and answers that hold a fault or a number of bytes.
--     free-short free-long   a run of free bytes that ends behind the file's end, or inside
--     part-..                the two answers on contents, and what they say; bytes-or: the bytes, or 0
-- Assumes nothing.
use Prim.Native.Nat.{ℕ, zero, suc, ◌+◌, ◌≤◌, ◌<◌}
use mathlib.Core.Path.{◌≡◌, refl, sym, ap, ◌∙◌}
use mathlib.Core.List.{List, [], ◌∷◌}
use native.Mathlib.Omega.{arith}
use lib.ListN.{length, drop}
use Rattle.metafile.specs.Bytes.{choose}
use Rattle.metafile.specs.Lines.{free, value, run}
use Rattle.laws.proofs.First.{choose-go, choose-stop}
use Rattle.laws.proofs.Stages.{run-one, free-short as field-free-short, free-long as field-free-long}
use Rattle.std.specs.declared.result.Result.{Result}
use Rattle.std.specs.declared.result.Result.TheVariants.{Ok, Err}
use Rattle.std.specs.Result.{result_unwrap_or}
use Rattle.metafile.specs.declared.refusal.Refusal.{Refusal}
use Rattle.multi.specs.Part.{Part, part_in, part_of}

-- ---- free bytes

pub free-short : (p n : ℕ) (s : List ℕ) → p ≤ length s → length s < p + n → 4 ≡ run (value (free n) ∷ []) (drop p s)
free-short p n s h l = field-free-short n p s h (omega arith) ∙ sym (run-one (value (free n)) (drop p s))

pub free-long : (p n : ℕ) (s : List ℕ) → p + n ≤ length s → 0 ≡ run (value (free n) ∷ []) (drop p s)
free-long p n s h = field-free-long n p s (omega arith) (omega arith) ∙ sym (run-one (value (free n)) (drop p s))

-- ---- the answer on contents

pub part-fault : (f b n : ℕ) → n ≡ f → (n ≡ 0 → ⊥) → record { number = n; bytes = 0 } ≡ part_of f b
part-fault f b n e h = rw e (sym (choose-stop f _ _ (λ z. h (e ∙ z))))

pub part-whole : (f b k : ℕ) → 0 ≡ f → k ≡ b → record { number = 0; bytes = k } ≡ part_of f b
part-whole f b k e h = rw h (sym (choose-go f _ _ (sym e)))

pub part-number : (f b : ℕ) (p : Part) → p ≡ part_of f b → p.number ≡ f
unfolding choose
part-number f b p e = ap (λ (q : Part). q.number) e ∙ number_of f b
  where
    number_of : (f b : ℕ) → (part_of f b).number ≡ f
    number_of zero b = refl
    number_of (suc f) b = refl

pub part_bytes : (f b : ℕ) (p : Part) → p ≡ part_of f b → p.number ≡ 0 → p.bytes ≡ b
part_bytes f b p e z =
    let none : f ≡ 0 = sym (part-number f b p e) ∙ z in
    ap (λ (q : Part). q.bytes) (e ∙ choose-go f _ _ none)

pub bytes-or : (p : Result ℕ Refusal) → result_unwrap_or p 0 ≡ (part_in p).bytes
bytes-or (Ok n) = refl
bytes-or (Err r) = refl
