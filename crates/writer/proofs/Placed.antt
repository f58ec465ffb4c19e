-- Bytes put at a place of a buffer, and into a run of spaces ("a shorter given text is padded on the right with spaces").
--     part-whole padded-full   a part that is the whole, a text that fills its width
--     placed-next part_placed take-placed   bytes put behind bytes, what stands there, what stands before
--     part-first               a part of the first bytes
--     spaces placed-padded     a text put into a run of spaces
--     put-padded put_next      a text, a value, behind what stands
-- Assumes nothing.
use Prim.Native.Nat.{ℕ, ◌+◌, ◌-◌, ◌≤◌}
use mathlib.Core.Path.{◌≡◌, refl, sym, ap, ◌∙◌}
use mathlib.Core.List.{List, ◌++◌, append_assoc, append-nil}
use native.Mathlib.Omega.{arith}
use lib.ListN.{length, take, drop, replicate, length-replicate, replicate-append-replicate, take-append-drop}
use lib.Seq.{take_all, take_at, drop_at, drop-append-add, take-append-le, take-take, length-take-le}
use Rattle.metafile.specs.Bytes.{part}
use Rattle.metafile.specs.Fields.{padded}
use Rattle.metafile.specs.Answers.{placed}
use Rattle.laws.proofs.Lists.{part-local}
use Rattle.laws.proofs.Loops.{placed-placed}

pub part-whole : (v : List ℕ) (n : ℕ) → length v ≡ n → part 0 n v ≡ v
part-whole v n e = take_all n v (omega arith)

pub padded-full : (n : ℕ) (v : List ℕ) → length v ≡ n → padded n v ≡ v
unfolding padded
padded-full n v e =
    let none : n - length v ≡ 0 = omega arith in
    rw (none, append-nil)

-- ---- bytes at a place

pub placed_on : (p q : ℕ) (v w b b' : List ℕ) → b' ≡ placed p v b → q ≡ p + length v → p + length v + length w ≤ length b → placed q w b' ≡ placed p (v ++ w) b
placed_on p q v w b b' e at h = rw (e, at) (placed-placed p v w b h)

pub placed-next : (p q : ℕ) (v w b b₁ b₂ : List ℕ) → b₁ ≡ placed p v b → q ≡ p + length v → p + length v + length w ≤ length b → b₂ ≡ placed q w b₁ → b₂ ≡ placed p (v ++ w) b
placed-next p q v w b b₁ b₂ e at h e' = e' ∙ placed_on p q v w b b₁ e at h

pub part_placed : (p : ℕ) (v b : List ℕ) → p ≤ length b → part p (length v) (placed p v b) ≡ v
unfolding placed
part_placed p v b h =
    rw (drop_at (take p b) (v ++ drop (p + length v) b) p (length-take-le p b h)) (take_at v (drop (p + length v) b) (length v) refl)

pub take-placed : (n p : ℕ) (v b : List ℕ) → n ≤ p → p ≤ length b → take n (placed p v b) ≡ take n b
unfolding placed
take-placed n p v b h l =
    take-append-le n (take p b) (v ++ drop (p + length v) b) (rw (length-take-le p b l) h) ∙ take-take n p b h

-- a part of the first k bytes
pub part-first : (p n k : ℕ) (b : List ℕ) → p + n ≤ k → k ≤ length b → part p n b ≡ part p n (take k b)
part-first p n k b h l =
    ap (part p n) (sym (take-append-drop k b)) ∙ part-local p n (take k b) (drop k b) (rw (length-take-le k b l) h)

-- ---- into spaces

abbrev pub spaces : ℕ → List ℕ
spaces n = replicate n 32

spaces-split : (n k : ℕ) → spaces (n + k) ≡ spaces n ++ spaces k
spaces-split n k = sym (replicate-append-replicate {A = ℕ} n k 32)

-- a text put behind p, at the beginning of a field of w spaces
pub placed-padded : (at w n : ℕ) (p v : List ℕ) → length p ≡ at → length v ≤ w → placed at v (p ++ spaces (w + n)) ≡ p ++ padded w v ++ spaces n
unfolding placed padded
placed-padded at w n p v e h =
    let sums : w + n ≡ length v + ((w - length v) + n) = omega arith in
    let split : spaces (w + n) ≡ spaces (length v) ++ (spaces (w - length v) ++ spaces n) =
    rw (sums, spaces-split (length v) ((w - length v) + n), spaces-split (w - length v) n) in
    rw (
      take_at p (spaces (w + n)) at e,
      ← e,
      drop-append-add p (spaces (w + n)) (length v),
      split,
      drop_at (spaces (length v)) (spaces (w - length v) ++ spaces n) (length v) (length-replicate {A = ℕ} (length v) 32),
    )
    (simp append_assoc)

-- a text put behind what stands, at the beginning of a field of w spaces
pub put-padded : (at w n : ℕ) (p v b b' : List ℕ) → length p ≡ at → length v ≤ w → b ≡ p ++ spaces (w + n) → b' ≡ placed at v b → b' ≡ p ++ padded w v ++ spaces n
put-padded at w n p v b b' lp lv e q = q ∙ rw e (placed-padded at w n p v lp lv)

-- a value that fills its width
pub put_next : (at w n : ℕ) (p v b b' : List ℕ) → length p ≡ at → length v ≡ w → b ≡ p ++ spaces (w + n) → b' ≡ placed at v b → b' ≡ p ++ v ++ spaces n
put_next at w n p v b b' lp lv e q =
    let put = put-padded at w n p v b b' lp (omega arith) e q in
    rw (padded-full w v lv) at put
