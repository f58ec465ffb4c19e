-- Blocks and data by their places, as code goes through them.
--     non_zero-ltb                       a number above 0, as code tests it
--     all-zeros zeros-put               bytes that are all zero, tested and put
--     slice_cut spare-part              a part that may end with the bytes; the spare bytes of a block
--     blocks-counted                    how many blocks there are, as code counts them
--     block_inside fault-is             a block begins inside; its fault
--     empty-fault some-fault            no bytes, and some
--     data-inside data_is               the data of a block begin inside, and are a part of the file
--     put-there                         bytes that were put stand where they were put
-- Assumes nothing.
use Rattle.std.proofs.Common.{◌≡◌, ℕ, zero, suc, ◌+◌, ◌-◌, ◌*◌, ◌<◌, ◌≤◌, min, not, eqb, ltb, leb, List, [], ◌∷◌, ◌++◌, length, take, drop, replicate, sym, refl, ap, ◌∙◌, arith, length-drop, length-take-le, take_all, drop_at, le-ltb, lt-ltb, leb-false, leb-true}
use lib.ListN.{length-replicate}
use lib.Seq.{take-append_seam}
use borrow.Rule.Slice.PartMut.{put_mid}
use Rattle.std.specs.Int.{div_ceil}
use Rattle.std.specs.List.{list_all}
use Rattle.metafile.specs.Bytes.{part, all, is_zero, non_zero, is_empty}
use Rattle.metafile.specs.Below.{fault_below}
use Rattle.metafile.specs.Answers.{placed}
use Rattle.laws.proofs.First.{test, is_zero-eqb}
use Rattle.laws.proofs.Stages.{unmet, met}
use Rattle.lines.proofs.Puts.{copied}
use Rattle.text.specs.Put.{Put}
use Rattle.blocks.specs.Blocks.{block, block_count, data_at, block_for, blocks_of, block_of, block_fault, fault_of, unpack_fault}

pub non_zero-ltb : (n : ℕ) → ltb 0 n ≡ non_zero n
unfolding non_zero is_zero
non_zero-ltb zero = le-ltb 0 0 (omega arith)
non_zero-ltb (suc n) = lt-ltb 0 (suc n) (omega arith)

-- ---- bytes that are all zero

pub all-zeros : (s : List ℕ) → list_all (λ x. eqb x 0) s ≡ all is_zero s
unfolding all
all-zeros [] = refl
all-zeros (x ∷ s) = rw (is_zero-eqb x, all-zeros s)

pub zeros-put : (at n : ℕ) (b ys : List ℕ) → at + n ≤ length b → ys ≡ replicate n 0 → Put (replicate n 0) at b (at + n) (put_mid at (at + n - at) b ys)
zeros-put at n b ys h e =
    let long : length (replicate {A = ℕ} n 0) ≡ n = length-replicate n 0 in
    record {
      end_is = omega (arith, long);
      fits = h;
      bytes-are = rw long at (copied at (replicate n 0) b ys e);
    }

-- ---- parts

pub slice_cut : (a w e : ℕ) (s : List ℕ) → e ≡ min (length s) (a + w) → take (e - a) (drop a s) ≡ part a w s
slice_cut a w e s q =
    test (leb (a + w) (length s))
    (λ t. let inside = leb-true (a + w) (length s) t in let n : e - a ≡ w = omega arith in rw n)
    (λ t.
    let over = leb-false (a + w) (length s) t in
    take_all (e - a) (drop a s) (simp length-drop (omega arith)) ∙ sym (take_all w (drop a s) (simp length-drop (omega arith))))

pub spare-part : (u v : ℕ) (b : List ℕ) → u ≡ v → take (510 - (6 + u)) (drop (6 + u) b) ≡ part (6 + v) (504 - v) b
spare-part u v b e = let n : 510 - (6 + v) ≡ 504 - v = omega arith in rw (e, n)

pub blocks-counted : (x : List ℕ) → div_ceil (length x) 512 ≡ blocks_of x
unfolding blocks_of
blocks-counted x = omega arith

pub block_inside : (x : List ℕ) (i : ℕ) → i < blocks_of x → 512 * i < length x
unfolding blocks_of
block_inside x i h = omega arith

pub fault-is : (x : List ℕ) (i count e r : ℕ) → count ≡ blocks_of x → e ≡ min (length x) (512 * i + 512)
    → r ≡ block_fault (eqb (i + 1) count) i (take (e - 512 * i) (drop (512 * i) x)) → r ≡ fault_of x i
unfolding fault_of block_of
fault-is x i count e r n q f = rw (slice_cut (512 * i) 512 e x q, n) at f

pub empty-fault : (x : List ℕ) → length x ≡ 0 → 29 ≡ unpack_fault x
unfolding unpack_fault is_empty
empty-fault [] e = unmet (not (is_empty [])) 28 _ refl
empty-fault (y ∷ x) e = absurd (omega arith)

pub some-fault : (x : List ℕ) (r : ℕ) → (length x ≡ 0 → ⊥) → r ≡ fault_below (blocks_of x) (fault_of x) → r ≡ unpack_fault x
unfolding unpack_fault is_empty
some-fault [] r n e = absurd (n refl)
some-fault (y ∷ x) r n e = met (not (is_empty (y ∷ x))) 29 _ r refl e

pub data-inside : (f : List ℕ) (i : ℕ) → i < block_count (length f) → 504 * i ≤ length f
unfolding block_count
data-inside f i h = omega arith

pub data_is : (f : List ℕ) (i e : ℕ) → e ≡ min (length f) (504 * i + 504) → block i (take (e - 504 * i) (drop (504 * i) f)) ≡ block_for f i
unfolding block_for data_at
data_is f i e q = ap (block i) (slice_cut (504 * i) 504 e f q)

-- ---- bytes that were put

pub put-there : {v b c : List ℕ} {at r : ℕ} → Put v at b r c → take (r - at) (drop at c) ≡ v
unfolding placed
put-there {v} {b} {c} {at} {r} p =
    let long : r - at ≡ length v = omega (arith, p.end_is) in
    let first : length (take at b) ≡ at = length-take-le at b (omega (arith, p.end_is, p.fits)) in
    rw (p.bytes-are, long, drop_at (take at b) (v ++ drop (at + length v) b) at first) (take-append_seam v (drop (at + length v) b))
