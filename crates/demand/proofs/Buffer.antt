-- The three writes are the parts of the finished append's buffer between the old end and the three ends ("the finished
-- file is these and then the three writes whole, as the buffer then holds them up to the last end").
--     finished-is   the finished file is the old one and the new chunk
--     remains-is    what a cut left is the old file and what it left of the new chunk
-- Assumes nothing.
use Prim.Native.Nat.{ℕ, ◌+◌, ◌-◌}
use mathlib.Core.Bool.{Bool}
use mathlib.Core.Path.{◌≡◌, sym, ◌∙◌}
use mathlib.Core.List.{List, ◌++◌, append_assoc}
use native.Mathlib.Omega.{arith}
use lib.ListN.{length, take, drop, length-append}
use lib.Seq.{take_at, drop_at, length-take-le}
use Rattle.metafile.specs.Answers.{placed}
use Rattle.metafile.specs.Append.{Given, first_write, third_write, new_chunk, first_end, second_end, third_end, append}
use Rattle.metafile.specs.Cut.{Write, header_write, contents_write, closing_write, CutPoint, write_start, write_end, zeroed, left_over, remains}
use Rattle.metafile.specs.Demand.{finished}
use Rattle.written_laws.proofs.Taken.{Appended}
use Rattle.written_laws.proofs.Stretches.{chunk_bytes, new_chunk-is}
use Rattle.demand.proofs.Cut.{left_of}

-- the part b between a and c, cut and with blocks zeroed
left-between : (buffer a b c : List ℕ) (from to k : ℕ) (lost : ℕ → Bool) → buffer ≡ a ++ (b ++ c) → from ≡ length a → to ≡ length a + length b
    → left_over buffer from to k lost ≡ a ++ zeroed lost from (take k b)
unfolding left_over
left-between buffer a b c from to k lost is ef et =
    let size_is : length b ≡ to - from = omega arith in
    rw (is, take_at a (b ++ c) from (sym ef), drop_at a (b ++ c) from (sym ef), take_at b c (to - from) size_is)

module _ (buffer : List ℕ) (len : ℕ) (g : Given) (e₁ e₂ e₃ : ℕ) (d : Appended buffer len g e₁ e₂ e₃) where
  old-length : length (take len buffer) ≡ len
  old-length = length-take-le len buffer d.is-lent.file-inside

  -- the buffer afterwards, and the bytes that kept their state
  rest : List ℕ
  rest = drop (len + length (new_chunk (take len buffer) g)) buffer

  buffer-parts : (append buffer len g).buffer ≡ take len buffer ++ (new_chunk (take len buffer) g ++ rest)
  unfolding placed rest
  buffer-parts = d.buffer-is

  pub finished-is : finished buffer len g e₃ ≡ take len buffer ++ chunk_bytes (take len buffer) g
  unfolding finished third_end second_end first_end new_chunk
  finished-is =
      let old : List ℕ = take len buffer in
      let long : length (old ++ new_chunk old g) ≡ e₃ = simp length-append (omega (arith, d.third-end)) in
      rw (buffer-parts, ← append_assoc old (new_chunk old g) rest, take_at (old ++ new_chunk old g) rest e₃ long, new_chunk-is old g)

  -- what is left of the write x
  Left : Write → Type 0
  Left x =
      (k : ℕ) (lost : ℕ → Bool)
      → left_over (append buffer len g).buffer (write_start len e₁ e₂ x) (write_end e₁ e₂ e₃ x) k lost ≡ take len buffer ++ left_of (take len buffer) g x k lost

  left-header : Left header_write
  unfolding Left write_start write_end left_of new_chunk first_end
  left-header k lost =
      let old : List ℕ = take len buffer in
      rw old-length
      (left-between _ old (first_write old g) (g.contents ++ (third_write old g ++ rest)) len e₁ k lost
      (buffer-parts ∙ simp append_assoc) (sym old-length) d.first-end)

  left-contents : Left contents_write
  unfolding Left write_start write_end left_of new_chunk first_end second_end
  left-contents k lost =
      let old : List ℕ = take len buffer in
      rw (← d.first-end, ← append_assoc old (first_write old g))
      (left-between _ (old ++ first_write old g) g.contents (third_write old g ++ rest) e₁ e₂ k lost
      (buffer-parts ∙ simp append_assoc) (simp length-append d.first-end) (simp length-append d.second-end))

  left-closing : Left closing_write
  unfolding Left write_start write_end left_of new_chunk first_end second_end third_end
  left-closing k lost =
      let old : List ℕ = take len buffer in
      rw (← d.second-end, ← append_assoc old (first_write old g ++ g.contents))
      (left-between _ (old ++ (first_write old g ++ g.contents)) (third_write old g) rest e₂ e₃ k lost
      (buffer-parts ∙ simp append_assoc) (simp length-append (omega (arith, d.second-end))) (simp length-append (omega (arith, d.third-end))))

  left-of : (x : Write) → Left x
  left-of header_write = left-header
  left-of contents_write = left-contents
  left-of closing_write = left-closing

  pub remains-is : (c : CutPoint) → remains (append buffer len g).buffer len e₁ e₂ e₃ c ≡ take len buffer ++ left_of (take len buffer) g c.write c.kept c.lost
  unfolding remains Left
  remains-is c = left-of c.write c.kept c.lost
