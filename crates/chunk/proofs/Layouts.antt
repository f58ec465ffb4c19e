-- The layout of a chunk: its answers, stage by stage, and what the layout of a whole chunk says of its places.
--     layout-header layout-contents layout-closing   the first fault is in that stage
--     ContentsRead            what is known once the contents are read; contents-inside: they end inside
--     layout-whole     there is no fault
--     Placed, placed   a whole chunk: each number of its layout, inside the file
--     parts-..         the parts of a whole chunk, as they are read without judging it
--     serial-is offset-.. line-inside nothing_read ending-.. row_is   what a row has beside them
-- Assumes nothing.
use Prim.Native.Nat.{ℕ, zero, suc, ◌+◌, ◌-◌, ◌≤◌}
use mathlib.Core.Bool.{Bool, true, false}
use mathlib.Core.Path.{◌≡◌, refl, sym, ap, ◌∙◌}
use mathlib.Core.List.{List}
use native.Mathlib.Omega.{arith}
use lib.ListN.{length, take, drop, length-drop}
use lib.Seq.{drop-drop}
use lib.IntN.{ℤ, pos}
use Rattle.metafile.specs.Bytes.{part, choose, is_zero, same}
use Rattle.metafile.specs.Fields.{count_value, offset_value}
use Rattle.metafile.specs.Lines.{run}
use Rattle.metafile.specs.Closing.{closing, closing_end, closing_serial, sum_good}
use Rattle.metafile.specs.Chunk.{head, synch_type, standard, offset_bytes, dependencies, is_multi, header_bytes, chunk_header_fault, contents_fault, contents_from, contents_long, contents_place, contents_bytes, closing_place, chunk_end, serial_of, chunk_fault, content_count, ending_of, chunk_ending, offset_under, row_at}
use Rattle.laws.proofs.First.{cases, untrue, is_zero-zero, is_zero-is, choose-go, choose-stop}
use Rattle.laws.proofs.Loops.{part-drop}
use Rattle.chunk_laws.proofs.Contents.{contents-least, contents-enough}
use Rattle.chunk_laws.proofs.Chunk.{whole, fits_head, fits-header, fits}
use Rattle.chunk.specs.declared.parts.Layout.{Layout}
use Rattle.chunk.specs.Layout.{faulty, parts_of, layout_of, WholeLayout, contents_part}
use Rattle.multi.specs.Part.{Part, part_of}
use Rattle.lines.specs.Words.{word_no}
use Rattle.laws.proofs.Stages.{stop, go}
use Rattle.chunk.proofs.Stages.{part-number, part_bytes}
use Rattle.chunk.proofs.Headers.{header-whole}

-- ---- a fault

fault-layout : (llc : Bool) (m s : List ℕ) (f : ℕ) → f ≡ chunk_fault llc m s → (f ≡ 0 → ⊥) → faulty f ≡ layout_of llc m s
unfolding layout_of
fault-layout llc m s f e n = rw e (sym (choose-stop (chunk_fault llc m s) _ faulty (λ z. n (e ∙ z))))

pub layout-header : (llc : Bool) (m s : List ℕ) (f : ℕ) → f ≡ chunk_header_fault s → (f ≡ 0 → ⊥) → faulty f ≡ layout_of llc m s
unfolding chunk_fault
layout-header llc m s f e n = fault-layout llc m s f (stop _ _ f e n) n

-- ---- the header has none, and the contents were read: the header's bytes hb, MultiChunk or not, the answer p

pub record ContentsRead (llc : Bool) (m s : List ℕ) (hb : ℕ) (mc : Bool) (p : Part) : Type 0 where
  pub in-header : chunk_header_fault s ≡ 0
  pub header_is : hb ≡ header_bytes s
  pub multi-is : mc ≡ is_multi s
  pub part-is : p ≡ contents_part mc llc m (take (length s - hb) (drop hb s))

module _ {llc : Bool} {m s : List ℕ} {hb : ℕ} {mc : Bool} {p : Part} (b : ContentsRead llc m s hb mc p) where
  rest : List ℕ
  rest = drop (header_bytes s) s

  contents-are : p ≡ part_of (contents_fault (is_multi s) llc m rest) (contents_long (is_multi s) m rest)
  unfolding contents_part rest
  contents-are = rw (part-drop, b.multi-is, b.header_is) at b.part-is

  contents-number : p.number ≡ contents_fault (is_multi s) llc m rest
  contents-number = part-number _ _ p contents-are

  pub layout-contents : (p.number ≡ 0 → ⊥) → faulty p.number ≡ layout_of llc m s
  unfolding chunk_fault rest
  layout-contents n =
      fault-layout llc m s p.number (go _ _ _ b.in-header (stop _ _ _ contents-number n)) n

  -- the contents have none: where they end
  module _ (z : p.number ≡ 0) (from : ℕ) (e : from ≡ contents_from mc) where
    bytes-are : p.bytes ≡ contents_bytes m s
    unfolding contents_bytes rest
    bytes-are = part_bytes _ _ p contents-are z

    from_is : from ≡ contents_from (is_multi s)
    from_is = rw b.multi-is at e

    closing_at : hb + from + p.bytes ≡ closing_place m s
    unfolding closing_place contents_place
    closing_at = omega (arith, b.header_is, from_is, bytes-are)

    pub contents-inside : hb + from + p.bytes ≤ length s
    unfolding contents_bytes rest
    contents-inside =
        let k = simp length-drop at (contents-enough (is_multi s) llc m rest (sym contents-number ∙ z)) in
        omega (arith, b.header_is, from_is, bytes-are, (header-whole s b.in-header).inside)

    module _ (g : ℕ) (eg : g ≡ run (closing m) (drop (hb + from + p.bytes) s)) where
      last-fault : g ≡ chunk_fault llc m s
      unfolding chunk_fault rest
      last-fault =
          go _ _ _ b.in-header (go _ _ _ (sym contents-number ∙ z) (rw closing_at at eg))

      pub layout-closing : (g ≡ 0 → ⊥) → faulty g ≡ layout_of llc m s
      layout-closing n = fault-layout llc m s g last-fault n

      pub layout-whole : g ≡ 0 → (d : ℕ) → d ≡ dependencies s
          → record {
            number = 0;
            header = hb;
            contents = hb + from;
            bytes = p.bytes;
            end = hb + from + p.bytes + length m + 254 + length m;
            dependencies = d;
            multichunk = mc;
          }
          ≡ layout_of llc m s
      unfolding layout_of parts_of chunk_end closing_end contents_place
      layout-whole q d ed =
          rw (closing_at, bytes-are, b.header_is, from_is, ed, b.multi-is)
          (sym (choose-go (chunk_fault llc m s) _ faulty (sym last-fault ∙ q)))

-- ---- a whole chunk

number_is : (m s : List ℕ) (f : ℕ) → (choose f (parts_of m s) faulty).number ≡ f
unfolding choose parts_of faulty
number_is m s zero = refl
number_is m s (suc f) = refl

pub record Placed (l : Layout) (m s : List ℕ) : Type 0 where
  pub in_head : run head s ≡ 0
  pub header_is : l.header ≡ header_bytes s
  pub contents-is : l.contents ≡ contents_place s
  pub bytes-is : l.bytes ≡ contents_bytes m s
  pub end_is : l.end ≡ chunk_end m s
  pub dependencies-is : l.dependencies ≡ dependencies s
  pub multi-is : l.multichunk ≡ is_multi s
  pub closing-is : l.contents + l.bytes ≡ closing_place m s
  pub closed : l.contents + l.bytes + length m + 254 + length m ≡ l.end
  pub inside : l.end ≤ length s

placed-parts : (l : Layout) (m s : List ℕ) (llc : Bool) → l ≡ parts_of m s → chunk_fault llc m s ≡ 0 → Placed l m s
unfolding parts_of chunk_end closing_end closing_place
placed-parts l m s llc e none =
    let ec : l.contents ≡ contents_place s = ap (λ (x : Layout). x.contents) e in
    let eb : l.bytes ≡ contents_bytes m s = ap (λ (x : Layout). x.bytes) e in
    let ee : l.end ≡ chunk_end m s = ap (λ (x : Layout). x.end) e in
    let w = whole llc m s none in
    record {
      in_head = w.in_head;
      header_is = ap (λ (x : Layout). x.header) e;
      contents-is = ec;
      bytes-is = eb;
      end_is = ee;
      dependencies-is = ap (λ (x : Layout). x.dependencies) e;
      multi-is = ap (λ (x : Layout). x.multichunk) e;
      closing-is = omega (arith, ec, eb);
      closed = omega (arith, ec, eb, ee);
      inside = omega (arith, ee, fits llc m s w);
    }

pub placed : (l : Layout) (m s : List ℕ) → WholeLayout l m s → Placed l m s
unfolding layout_of
placed l m s w =
    let none : chunk_fault w.llc m s ≡ 0 = sym (ap (λ (x : Layout). x.number) w.is ∙ number_is m s (chunk_fault w.llc m s)) ∙ w.whole in
    placed-parts l m s w.llc (w.is ∙ choose-go (chunk_fault w.llc m s) (parts_of m s) faulty none) none

-- ---- the parts of a whole chunk, as they are read: the header's bytes hb, MultiChunk or not, the contents' bytes n, where
-- they begin behind the header

module _ (llc : Bool) (m s : List ℕ) (z : chunk_fault llc m s ≡ 0) where
  pub parts-long : 567 ≤ length s
  parts-long = fits_head llc m s (whole llc m s z)

  module _ (hb : ℕ) (header_is : hb ≡ header_bytes s) where
    pub parts-header : hb ≤ length s
    parts-header = omega (arith, fits-header llc m s (whole llc m s z))

    module _ (mc : Bool) (multi-is : mc ≡ is_multi s) where
      pub parts-contents : contents_fault mc llc m (take (length s - hb) (drop hb s)) ≡ 0
      parts-contents = rw (part-drop, multi-is, header_is) (whole llc m s z).in-contents

      module _ (n : ℕ) (long-is : n ≡ contents_long mc m (take (length s - hb) (drop hb s))) (from : ℕ) (from_is : from ≡ contents_from mc) where
        parts-bytes : n ≡ contents_bytes m s
        unfolding contents_bytes
        parts-bytes = rw (part-drop, multi-is, header_is) at long-is

        parts-place : hb + from ≡ contents_place s
        unfolding contents_place
        parts-place = omega (arith, rw multi-is at from_is)

        parts-end : hb + from + n + length m + 254 + length m ≡ chunk_end m s
        unfolding chunk_end closing_end closing_place
        parts-end = omega (arith, parts-place, parts-bytes)

        pub parts-inside : hb + from + n + length m + 254 + length m ≤ length s
        parts-inside = omega (arith, parts-end, fits llc m s (whole llc m s z))

        pub parts_are : (d : ℕ) → d ≡ dependencies s
            → record {
              number = 0;
              header = hb;
              contents = hb + from;
              bytes = n;
              end = hb + from + n + length m + 254 + length m;
              dependencies = d;
              multichunk = mc;
            }
            ≡ parts_of m s
        unfolding parts_of
        parts_are d e = rw (parts-end, parts-place, parts-bytes, header_is, e, multi-is)

-- ---- what is read behind the contents: c is where they end

pub serial-is : (m s : List ℕ) (c : ℕ) (v : List ℕ) → c ≡ closing_place m s
    → v ≡ take 38 (take (length s - (c + length m + 20)) (drop (c + length m + 20) s)) → v ≡ serial_of m s
unfolding serial_of closing_serial
serial-is m s c v ec e = rw (part-drop, ec) at e

-- ---- "offset (0 under SPE or NUL standard)"

module _ (s : List ℕ) (b : Bool) (eb : b ≡ same (part 342 3 s) (word_no 5)) where
  pub offset-synch : b ≡ true → pos 0 ≡ offset_under (synch_type s) (standard s) (offset_bytes s)
  unfolding offset_under synch_type word_no
  offset-synch t = rw (sym eb ∙ t)

  module _ (f : b ≡ false) (d : Bool) (ed : d ≡ same (part 366 3 s) (word_no 1)) where
    pub offset-standard : d ≡ true → pos 0 ≡ offset_under (synch_type s) (standard s) (offset_bytes s)
    unfolding offset_under synch_type standard word_no
    offset-standard t = rw (sym eb ∙ f, sym ed ∙ t)

    pub offset-given : d ≡ false → (v : ℤ) → v ≡ offset_value (part 426 16 s) → v ≡ offset_under (synch_type s) (standard s) (offset_bytes s)
    unfolding offset_under synch_type standard offset_bytes word_no
    offset-given t v e = rw (sym eb ∙ f, sym ed ∙ t) e

-- ---- "counted, found, or by mini-chunks"

-- either sort of contents is long enough for a content length line
pub line-inside : (l : Layout) (m s : List ℕ) → Placed l m s → l.header + 34 ≤ length s
unfolding contents_place contents_bytes
line-inside l m s q =
    omega (arith, q.header_is, q.contents-is, q.bytes-is, q.closed, q.inside, contents-least (is_multi s) m (drop (header_bytes s) s))

pub nothing_read : (l : Layout) (m s : List ℕ) → Placed l m s
    → (z : Bool) → z ≡ is_zero (count_value (take (l.header + 21 + 12 - (l.header + 21)) (drop (l.header + 21) s)))
    → z ≡ is_zero (content_count (drop (header_bytes s) s))
unfolding content_count
nothing_read l m s q z e =
    let n : l.header + 21 + 12 - (l.header + 21) ≡ 12 = omega arith in
    rw (drop-drop 21 (header_bytes s) s, ← q.header_is) (rw n at e)

-- mc says whether it is a MultiChunk, z whether the content length is 0
module _ (s : List ℕ) (mc : Bool) (e : mc ≡ is_multi s) where
  pub ending-minis : mc ≡ true → 2 ≡ chunk_ending s
  unfolding chunk_ending ending_of
  ending-minis t = rw (sym e ∙ t)

  module _ (f : mc ≡ false) (z : Bool) (ez : z ≡ is_zero (content_count (drop (header_bytes s) s))) where
    pub ending-found : z ≡ true → 1 ≡ chunk_ending s
    unfolding chunk_ending ending_of
    ending-found t = rw (sym e ∙ f, is_zero-zero _ (sym ez ∙ t))

    pub ending-counted : z ≡ false → 0 ≡ chunk_ending s
    unfolding chunk_ending ending_of
    ending-counted t =
        cases (content_count (drop (header_bytes s) s)) (λ q. untrue (sym t ∙ ez ∙ is_zero-is _ q)) (λ k q. rw (sym e ∙ f, q))

-- ---- the row

row_of : (m s : List ℕ) (p h c b e d : ℕ) (mc : Bool) → h ≡ header_bytes s → c ≡ contents_place s → b ≡ contents_bytes m s → e ≡ chunk_end m s → d ≡ dependencies s → mc ≡ is_multi s
    → (v : List ℕ) (o : ℤ) (g : Bool) (f : ℕ) → v ≡ serial_of m s → o ≡ offset_under (synch_type s) (standard s) (offset_bytes s) → g ≡ sum_good (closing_place m s) m s → f ≡ chunk_ending s
    → record {
      serial = v;
      place = p;
      header = h;
      contents = p + c;
      bytes = b;
      end = p + e;
      dependencies = d;
      offset = o;
      multichunk = mc;
      good = g;
      ending = f;
    }
    ≡ row_at m p s
unfolding row_at
row_of m s p h c b e d mc eh ec eb ee ed em v o g f ev eo eg ef = rw (eh, ec, eb, ee, ed, em, ev, eo, eg, ef)

pub row_is : (m s : List ℕ) (p : ℕ) (l : Layout) → Placed l m s
    → (v : List ℕ) (o : ℤ) (g : Bool) (f : ℕ) → v ≡ serial_of m s → o ≡ offset_under (synch_type s) (standard s) (offset_bytes s) → g ≡ sum_good (closing_place m s) m s → f ≡ chunk_ending s
    → record {
      serial = v;
      place = p;
      header = l.header;
      contents = p + l.contents;
      bytes = l.bytes;
      end = p + l.end;
      dependencies = l.dependencies;
      offset = o;
      multichunk = l.multichunk;
      good = g;
      ending = f;
    }
    ≡ row_at m p s
row_is m s p l q v o g f ev eo eg ef =
    row_of m s p l.header l.contents l.bytes l.end l.dependencies l.multichunk q.header_is q.contents-is q.bytes-is q.end_is q.dependencies-is q.multi-is v o g f ev eo eg ef
