-- One chunk with more bytes behind it: a whole chunk is whole again, and each place and value of it is the same.
--     ..-local                  places and values
--     whole-local row_at-local   it is whole, with the same row
--     dependency_serial-local dependency_sub_format-local   its dependencies
-- Assumes nothing.
use Prim.Native.Nat.{ℕ, ◌+◌, ◌*◌, ◌≤◌, ◌<◌}
use mathlib.Core.Bool.{Bool}
use mathlib.Core.Path.{◌≡◌, ap, ◌∙◌}
use mathlib.Core.List.{List, ◌++◌}
use native.Mathlib.Omega.{arith}
use lib.ListN.{length, drop, length-drop}
use lib.Seq.{take-append-le, drop-append-le}
use Rattle.metafile.specs.Bytes.{part}
use Rattle.metafile.specs.Fields.{count_value}
use Rattle.metafile.specs.Closing.{sum_place, closing_end, closing_serial, sum_good}
use Rattle.metafile.specs.Chunk.{head, header_length, sub_format, synch_type, standard, offset_bytes, dependency_bytes, dependencies, is_multi, specific, lengths_fault, dependency_serial_of, dependency_sub_format_of, specific_place, header_bytes, contents_from, contents_long, contents_place, contents_bytes, closing_place, chunk_end, serial_of, content_count, chunk_ending, row_at}
use Rattle.metafile.specs.Relations.{writing_date_of}
use Rattle.laws.proofs.Lists.{part-local}
use Rattle.laws.proofs.Table.{run-enough, run-local}
use Rattle.chunk_laws.proofs.Types.{stretch-local}
use Rattle.chunk_laws.proofs.Contents.{contents-least, contents-enough, contents-local, contents_long-local}
use Rattle.chunk_laws.proofs.Chunk.{Whole, fits_head, fits-dependencies, fits-place, fits-header, fits-contents, fits}

module _ (llc : Bool) (m s t : List ℕ) (w : Whole llc m s) where
  -- a value at a distance inside the head
  in-head-local : (p n : ℕ) → p + n ≤ 567 → part p n (s ++ t) ≡ part p n s
  in-head-local p n h = part-local p n s t (omega (arith, fits_head llc m s w))

  header_length-local : header_length (s ++ t) ≡ header_length s
  unfolding header_length
  header_length-local = ap count_value (in-head-local 20 12 (omega arith))

  pub sub_format-local : sub_format (s ++ t) ≡ sub_format s
  unfolding sub_format
  sub_format-local = in-head-local 46 256 (omega arith)

  dependency_bytes-local : dependency_bytes (s ++ t) ≡ dependency_bytes s
  unfolding dependency_bytes
  dependency_bytes-local = ap count_value (in-head-local 527 12 (omega arith))

  pub dependencies-local : dependencies (s ++ t) ≡ dependencies s
  unfolding dependencies
  dependencies-local = ap count_value (in-head-local 563 4 (omega arith))

  is_multi-local : is_multi (s ++ t) ≡ is_multi s
  unfolding is_multi
  is_multi-local = rw sub_format-local

  specific-local : specific (s ++ t) ≡ specific s
  unfolding specific
  specific-local = rw (header_length-local, dependencies-local)

  specific_place-local : specific_place (s ++ t) ≡ specific_place s
  unfolding specific_place
  specific_place-local = rw dependencies-local

  pub header_bytes-local : header_bytes (s ++ t) ≡ header_bytes s
  unfolding header_bytes
  header_bytes-local = rw (dependencies-local, specific-local)

  lengths-local : lengths_fault (s ++ t) ≡ 0
  unfolding lengths_fault
  lengths-local =
      rw (dependency_bytes-local, dependencies-local, header_length-local, is_multi-local, specific-local) (unfold lengths_fault in w.in-lengths)

  pub contents_place-local : contents_place (s ++ t) ≡ contents_place s
  unfolding contents_place
  contents_place-local = rw (header_bytes-local, is_multi-local)

  -- a mark and more than 10 bytes follow the contents
  behind : contents_from (is_multi s) + contents_long (is_multi s) m (drop (header_bytes s) s) + (length m + 10) ≤ length (drop (header_bytes s) s)
  unfolding chunk_end closing_end closing_place contents_place contents_bytes
  behind = simp length-drop (omega (arith, fits llc m s w))

  pub contents_bytes-local : contents_bytes m (s ++ t) ≡ contents_bytes m s
  unfolding contents_bytes
  contents_bytes-local =
      rw (is_multi-local, header_bytes-local, drop-append-le (header_bytes s) s t (fits-header llc m s w))
      (contents_long-local (is_multi s) llc m (drop (header_bytes s) s) t w.in-contents behind)

  closing_place-local : closing_place m (s ++ t) ≡ closing_place m s
  unfolding closing_place
  closing_place-local = rw (contents_place-local, contents_bytes-local)

  pub chunk_end-local : chunk_end m (s ++ t) ≡ chunk_end m s
  unfolding chunk_end
  chunk_end-local = rw closing_place-local

  pub serial_of-local : serial_of m (s ++ t) ≡ serial_of m s
  unfolding serial_of closing_serial chunk_end closing_end
  serial_of-local =
      rw closing_place-local (part-local (closing_place m s + length m + 20) 38 s t (omega (arith, fits llc m s w)))

  pub writing_date-local : writing_date_of m (s ++ t) ≡ writing_date_of m s
  unfolding writing_date_of chunk_end closing_end
  writing_date-local =
      rw closing_place-local (part-local (closing_place m s + length m + 163) 8 s t (omega (arith, fits llc m s w)))

  good-local : sum_good (closing_place m (s ++ t)) m (s ++ t) ≡ sum_good (closing_place m s) m s
  unfolding sum_good sum_place chunk_end closing_end
  good-local =
      let place : ℕ = closing_place m s + length m + 250 in
      let inside : place ≤ length s = omega (arith, fits llc m s w) in
      rw (closing_place-local, take-append-le place s t inside, part-local place 3 s t (omega (arith, fits llc m s w)))

  pub whole-local : Whole llc m (s ++ t)
  whole-local =
      record {
        in_head = run-local head s t (run-enough head s w.in_head) ∙ w.in_head;
        in-lengths = lengths-local;
        in-dependencies = rw dependencies-local (stretch-local _ 567 s t (fits_head llc m s w) w.in-dependencies);
        in-specific = rw (specific_place-local, specific-local) (stretch-local _ (specific_place s) s t (fits-place llc m s w) w.in-specific);
        in-contents =
            rw (is_multi-local, header_bytes-local, drop-append-le (header_bytes s) s t (fits-header llc m s w))
            (contents-local (is_multi s) llc m (drop (header_bytes s) s) t w.in-contents behind);
        in-closing = rw closing_place-local (stretch-local _ (closing_place m s) s t (fits-contents llc m s w) w.in-closing);
      }

  -- the content length, which either sort of contents is long enough for
  count-local : content_count (drop (header_bytes (s ++ t)) (s ++ t)) ≡ content_count (drop (header_bytes s) s)
  unfolding content_count
  count-local =
      let r : List ℕ = drop (header_bytes s) s in
      rw (header_bytes-local, drop-append-le (header_bytes s) s t (fits-header llc m s w))
      (ap count_value (part-local 21 12 r t (omega (arith, contents-least (is_multi s) m r, contents-enough (is_multi s) llc m r w.in-contents))))

  ending-local : chunk_ending (s ++ t) ≡ chunk_ending s
  unfolding chunk_ending
  ending-local = rw (is_multi-local, count-local)

  pub row_at-local : (p : ℕ) → row_at m p (s ++ t) ≡ row_at m p s
  unfolding row_at synch_type standard offset_bytes
  row_at-local p =
      rw (
        serial_of-local,
        header_bytes-local,
        contents_place-local,
        contents_bytes-local,
        chunk_end-local,
        dependencies-local,
        in-head-local 342 3 (omega arith),
        in-head-local 366 3 (omega arith),
        in-head-local 426 16 (omega arith),
        is_multi-local,
        good-local,
        ending-local,
      )

  -- dependency j, from 0, of those that the chunk has
  module _ (j : ℕ) (h : j < dependencies s) where
    pub dependency_serial-local : dependency_serial_of j (s ++ t) ≡ dependency_serial_of j s
    unfolding dependency_serial_of
    dependency_serial-local = part-local (568 + 344 * j + 25) 38 s t (omega (arith, fits-dependencies llc m s w))

    pub dependency_sub_format-local : dependency_sub_format_of j (s ++ t) ≡ dependency_sub_format_of j s
    unfolding dependency_sub_format_of
    dependency_sub_format-local = part-local (568 + 344 * j + 87) 256 s t (omega (arith, fits-dependencies llc m s w))
