-- The new chunk as a chain of stretches: head, dependencies, specific data, content length line, data, closing; their
-- lengths, and the head's values at their distances.
--     chunk_bytes new_chunk-is chunk-closed   the three writes as one chain, and with the closing apart
--     length-..                             lengths
--     head_at, ..-at                        the values of the head, field by field
-- Assumes nothing.
use Prim.Native.Nat.{ℕ, suc, ◌+◌, ◌*◌}
use mathlib.Core.Path.{◌≡◌, refl, sym, ap, ◌∙◌}
use mathlib.Core.List.{List, [], ◌∷◌, ◌++◌, append_assoc, append-nil}
use native.Mathlib.Omega.{arith}
use lib.ListN.{length, take, drop, length-append}
use lib.Seq.{drop-append-add}
use Rattle.metafile.specs.Bytes.{part}
use Rattle.metafile.specs.Fields.{digits_of}
use Rattle.metafile.specs.Lines.{count, text, Field, value, lf, lines_of, field_width, size, first_of, others_of, put, left, write, formed, generic_type, time_synch_type, time_standard, time_offset, event_synch, dependency_length, dependency_count, content_length}
use Rattle.metafile.specs.Header.{mark_of}
use Rattle.metafile.specs.Chunk.{head, sub_format, generic, synch_type, offset_bytes, dependency_length_for, header_length_for, dependency_fields}
use Rattle.metafile.specs.Reading.{rows_of}
use Rattle.metafile.specs.Append.{Given, sub_format_given, stamp_given, given_values, integrity_given, parent_values, head_values, content_count_for, first_write, third_write, new_chunk}
use Rattle.laws.proofs.Table.{write-size, write-at, lefts}
use Rattle.laws.proofs.Distances.{lines, size-head}
use Rattle.laws.proofs.Closed.{closed-length}
use Rattle.chunk_laws.proofs.Chunk.{size-behind-count}
use Rattle.written_laws.specs.Taken.{Taken}
use Rattle.written_laws.proofs.Formed.{formed-head, formed-dependencies, formed-line}

unfoldable pub head_part : Given → List ℕ
head_part g = write head (head_values g)

unfoldable pub dependency_part : List ℕ → Given → List ℕ
dependency_part old g = write (lf ∷ dependency_fields (length g.parents)) (parent_values old (rows_of old) g.parents)

unfoldable pub line_part : Given → List ℕ
line_part g = write (lines_of (content_length ∷ [])) (digits_of 12 (content_count_for g.is_open g.contents) ∷ [])

-- what follows the header
unfoldable pub tail_part : List ℕ → Given → List ℕ
tail_part old g = line_part g ++ (g.contents ++ third_write old g)

unfoldable pub chunk_bytes : List ℕ → Given → List ℕ
chunk_bytes old g = head_part g ++ (dependency_part old g ++ (g.specific ++ tail_part old g))

pub new_chunk-is : (old : List ℕ) (g : Given) → new_chunk old g ≡ chunk_bytes old g
unfolding new_chunk first_write chunk_bytes head_part dependency_part line_part tail_part
new_chunk-is old g = simp append_assoc

-- the same, with the closing apart
pub chunk-closed : (old : List ℕ) (g : Given) → chunk_bytes old g ≡ (first_write old g ++ g.contents) ++ (third_write old g ++ [])
unfolding new_chunk
chunk-closed old g = sym (new_chunk-is old g) ∙ rw append-nil

pub skip : (a b : List ℕ) (q r : ℕ) → q ≡ length a + r → drop q (a ++ b) ≡ drop r b
skip a b q r e = rw e (drop-append-add a b r)

module _ (old : List ℕ) (g : Given) (a : Taken old g) where
  -- ---- lengths of the stretches

  pub length-head : length (head_part g) ≡ 567
  unfolding head_part
  length-head = write-size head (head_values g) (formed-head old g a) ∙ size-head

  pub length-dependencies : length (dependency_part old g) ≡ 1 + 344 * length g.parents
  unfolding dependency_part
  length-dependencies =
      write-size (lf ∷ dependency_fields (length g.parents)) (parent_values old (rows_of old) g.parents) (formed-dependencies old g a)
      ∙ size-behind-count (length g.parents)

  pub length-line : length (line_part g) ≡ 34
  unfolding line_part lines
  length-line = write-size (lines_of (content_length ∷ [])) _ (formed-line old g a)

  pub length-first : length (first_write old g) ≡ 568 + 344 * length g.parents + length g.specific + 34
  unfolding first_write head_part dependency_part line_part
  length-first = simp length-append (omega (arith, length-head, length-dependencies, length-line))

  pub length-third : length (third_write old g) ≡ length (mark_of old) + 254 + length (mark_of old)
  unfolding third_write
  length-third = closed-length (mark_of old) (integrity_given g.description) a.in-integrity (first_write old g ++ g.contents)

  pub length-chunk : length (chunk_bytes old g) ≡ length (first_write old g) + length g.contents + length (third_write old g)
  length-chunk = rw (chunk-closed old g, append-nil) (simp length-append)

  -- ---- the head's values, each at its distance: field n of the head

  pub head_at : (n : ℕ) (f : Field) (p w : ℕ) → take n head ++ f ∷ drop (suc n) head ≡ head → size (take n head) ≡ p → field_width f ≡ w
      → part p w (chunk_bytes old g) ≡ put f (lefts (take n head) (head_values g))
  unfolding chunk_bytes head_part
  head_at n f p w is ep ew =
      let t : List ℕ = dependency_part old g ++ (g.specific ++ tail_part old g) in
      ap (λ (fs : List Field). part p w (write fs (head_values g) ++ t)) (sym is)
      ∙ write-at (take n head) f (drop (suc n) head) (head_values g) t p w ep ew (ap (λ (fs : List Field). formed fs (head_values g)) is ∙ formed-head old g a)

  pub header_length-at : part 20 12 (chunk_bytes old g) ≡ digits_of 12 (header_length_for (length g.parents) (length g.specific))
  unfolding lines head head_values put left lefts first_of
  header_length-at = head_at 1 (value (count 12 999999999999)) 20 12 refl refl refl

  pub sub_format-at : sub_format (chunk_bytes old g) ≡ sub_format_given g.description
  unfolding sub_format lines head head_values given_values put left lefts first_of others_of
  sub_format-at = head_at 4 (value (text 256)) 46 256 refl refl refl

  pub generic-at : generic (chunk_bytes old g) ≡ g.description.generic
  unfolding generic lines head head_values given_values put left lefts first_of others_of
  generic-at = head_at 7 (value generic_type.kind) 316 3 refl refl refl

  pub synch_type-at : synch_type (chunk_bytes old g) ≡ g.description.synch
  unfolding synch_type lines head head_values given_values put left lefts first_of others_of
  synch_type-at = head_at 10 (value time_synch_type.kind) 342 3 refl refl refl

  pub standard-at : part 366 41 (chunk_bytes old g) ≡ stamp_given time_standard.kind g.description.standard g.description.alternate
  unfolding lines head head_values given_values put left lefts first_of others_of
  standard-at = head_at 13 (value time_standard.kind) 366 41 refl refl refl

  pub offset_at : offset_bytes (chunk_bytes old g) ≡ g.description.offset
  unfolding offset_bytes lines head head_values given_values put left lefts first_of others_of
  offset_at = head_at 16 (value time_offset.kind) 426 16 refl refl refl

  pub event-at : part 461 41 (chunk_bytes old g) ≡ stamp_given event_synch.kind g.description.event g.description.linked
  unfolding lines head head_values given_values put left lefts first_of others_of
  event-at = head_at 19 (value event_synch.kind) 461 41 refl refl refl

  pub dependency_length-at : part 527 12 (chunk_bytes old g) ≡ digits_of 12 (dependency_length_for (length g.parents))
  unfolding lines head head_values given_values put left lefts first_of others_of
  dependency_length-at = head_at 22 (value dependency_length.kind) 527 12 refl refl refl

  pub dependency_count-at : part 563 4 (chunk_bytes old g) ≡ digits_of 4 (length g.parents)
  unfolding lines head head_values given_values put left lefts first_of others_of
  dependency_count-at = head_at 25 (value dependency_count.kind) 563 4 refl refl refl
