-- How many rows are there, by the chunks ahead (specs/Ahead).
--     serial-place-is     the place of a serial number, by the parts of its chunk
--     Stands, stands      a whole chunk at a place: where it ends, its serial number, and where that stands
--     row-serial-at row-is-new   the serial number of a row, at its place; it is in no row before
--     serial-given        the serial number at a place, as it is handed on
--     marked-..           the rows in the filter: none, one more
--     candidate-..        a place noted, a hash set
--     looking-..          the chunks looked at: none, one more
--     looked-kept         what was looked at stays so where the places noted are sorted
--     hashed-..           the places' hashes set: none, one more, all
--     before-..           the first place noted behind another with its serial number
--     compar..            the chunks compared: none, one more; the chunk behind the last row is none of them
-- Assumes nothing.
use Prim.Native.Nat.{ℕ, zero, suc, ◌+◌, ◌-◌, ◌≤◌, ◌<◌}
use mathlib.Core.Bool.{true, false}
use mathlib.Core.Path.{◌≡◌, refl, sym, ap, ◌∙◌}
use mathlib.Core.List.{List, [], ◌∷◌, ◌++◌}
use native.Mathlib.Omega.{arith}
use native.Mathlib.Numerals.{add-one}
use lib.Dec.{ltb}
use lib.ListN.{length, take, drop, set, get_or, length-set, length-drop}
use lib.Seq.{take_all, take-take, take-suc, take-suc-set, drop-drop}
use borrow.Author.Tests.{le-ltb, ltb-true, ltb-false}
use Rattle.metafile.specs.Bytes.{part}
use Rattle.metafile.specs.Fields.{same_serial, known}
use Rattle.metafile.specs.Closing.{closing_end, closing_serial}
use Rattle.metafile.specs.Header.{is_llc, mark_length, mark_of, header_fault, header_end}
use Rattle.metafile.specs.Chunk.{closing_place, chunk_end, chunk_fault, serial_of}
use Rattle.metafile.specs.Reading.{rows_of, serials_of}
use Rattle.metafile.specs.Append.{row_no}
use Rattle.laws.proofs.First.{test, untrue, or-true, choose-go}
use Rattle.laws.proofs.Loops.{part-drop}
use Rattle.laws.proofs.SameSerial.{same_first}
use Rattle.chunk_laws.proofs.Chunk.{whole, fits, least}
use Rattle.chunk.specs.declared.parts.Layout.{Layout}
use Rattle.chunk_laws.proofs.File.{header-whole, length-mark}
use Rattle.chunk_laws.proofs.Serials.{file-fresh, row_with-self}
use Rattle.chunk.specs.Layout.{layout_of, parts_of, faulty}
use Rattle.index.specs.Index.{hash_of, size}
use Rattle.index.proofs.Laws.{hash-first, same-hash, sized}
use Rattle.filter.specs.Filter.{covered_by, covering}
use Rattle.filter.proofs.Laws.{covering-long, covering-covers, covering-keeps}
use Rattle.order.specs.Order.{listed, Kept, Again, Next}
use Rattle.order.proofs.Laws.{listed_here, listed_more, listed-split}
use Rattle.walk.specs.Walk.{place_after, chunk_at, serial_at}
use Rattle.walk.specs.Ahead.{next_at, next_serial, next_place, Repeats, room, Marked, Considered, Looked, Hashed, Before, Known}
use Rattle.walk.proofs.Steps.{row-serial, row-unfaulted, place-suc, place_none, place-fits}
use Rattle.walk.proofs.Loops.{turn, layout-number, layout-end, step-turn}
use Rattle.walk.proofs.Serials.{known-none, known_more, known-with}

-- ---- a whole chunk at a place

pub record Stands (file : List ℕ) (p : ℕ) (l : Layout) : Type 0 where
  pub unfaulted : chunk_fault (is_llc file) (mark_of file) (drop p file) ≡ 0
  pub some : 0 < l.end
  pub inside : p + l.end ≤ length file
  pub serial-inside : serial_at file p + 38 ≤ p + l.end
  pub serial-is : serial_of (mark_of file) (drop p file) ≡ part (serial_at file p) 38 file

pub stands : (file : List ℕ) (p : ℕ) (l : Layout) → p ≤ length file → l ≡ chunk_at file p → l.number ≡ 0 → Stands file p l
unfolding chunk_at serial_at serial_of closing_serial chunk_end closing_end
stands file p l h is z =
    let llc = is_llc file in
    let m = mark_of file in
    let s = drop p file in
    let unfaulted = sym (layout-number llc m s) ∙ ap (λ (x : Layout). x.number) (sym is) ∙ z in
    let end_is : l.end ≡ closing_place m s + length m + 254 + length m = ap (λ (x : Layout). x.end) is ∙ layout-end llc m s unfaulted in
    let room : chunk_end m s ≤ length s = fits llc m s (whole llc m s unfaulted) in
    let behind : length s + p ≡ length file = simp length-drop (omega arith) in
    record {
      unfaulted = unfaulted;
      some = omega (arith, end_is);
      inside = omega (arith, end_is, room, behind);
      serial-inside = omega (arith, end_is);
      serial-is = rw (← drop-drop (closing_place m s + length m + 20) p file);
    }

-- the serial number's place, by the parts of the chunk
pub serial-place-is : (file : List ℕ) → header_fault file ≡ 0 → (at : ℕ) (l : Layout) → l ≡ chunk_at file at → l.number ≡ 0 → (n : ℕ)
    → n ≡ mark_length file → at + l.contents + l.bytes + n + 20 ≡ serial_at file at
unfolding chunk_at layout_of parts_of serial_at closing_place
serial-place-is file e at l is z n mark =
    let s = drop at file in
    let unfaulted = sym (layout-number (is_llc file) (mark_of file) s) ∙ ap (λ (x : Layout). x.number) (sym is) ∙ z in
    let parts = is ∙ choose-go (chunk_fault (is_llc file) (mark_of file) s) (parts_of (mark_of file) s) faulty unfaulted in
    omega (
      arith,
      ap (λ (x : Layout). x.contents) parts,
      ap (λ (x : Layout). x.bytes) parts,
      mark,
      length-mark file (header-whole file e),
    )

-- a whole chunk, by its layout
pub known-number : (file : List ℕ) (p : ℕ) (l : Layout) → l ≡ chunk_at file p → chunk_fault (is_llc file) (mark_of file) (drop p file) ≡ 0
    → l.number ≡ 0
unfolding chunk_at
known-number file p l is z = ap (λ (x : Layout). x.number) is ∙ layout-number (is_llc file) (mark_of file) (drop p file) ∙ z

thirty-five : (file : List ℕ) (q : ℕ) → take 35 (part q 38 file) ≡ part q 35 file
thirty-five file q = take-take 35 38 (drop q file) (omega arith)

-- the serial number at a place, from the part of the file that is handed on
pub serial-given : (file : List ℕ) (p : ℕ) → take 38 (take (length file - p) (drop p file)) ≡ part p 38 file
serial-given file p = rw (part-drop file p)

-- the bytes behind the first 35 don't matter for the hash
hash-of : (file : List ℕ) (p b : ℕ) → part b 35 file ≡ part p 35 file → hash_of (part b 38 file) ≡ hash_of (part p 38 file)
hash-of file p b e =
    hash-first (part b 38 file) ∙ ap hash_of (thirty-five file b ∙ e ∙ sym (thirty-five file p)) ∙ sym (hash-first (part p 38 file))

-- ---- the rows and the chunk behind them

module _ (file : List ℕ) (e : header_fault file ≡ 0) where
  rises : (k d : ℕ) → k + d ≤ length (rows_of file) → place_after file k ≤ place_after file (k + d)
  rises k zero h = let none : k + 0 ≡ k = omega arith in rw none (omega arith)
  rises k (suc d) h =
      let next : k + suc d ≡ suc (k + d) = omega arith in
      rw next (omega (arith, rises k d (omega arith), place-suc file e (k + d) (omega arith)))

  -- the chunk of row k
  module _ (k at : ℕ) (l : Layout) (h : k < length (rows_of file)) (p : at ≡ place_after file k) (is : l ≡ chunk_at file at) where
    row-stands : Stands file at l
    row-stands = let w = turn file e k at l h p is in stands file at l (omega (arith, w.inside)) is w.whole

    pub row-serial-at : (row_no (rows_of file) k).serial ≡ part (serial_at file at) 38 file
    row-serial-at = row-serial file e k h ∙ rw (← p) row-stands.serial-is

    serial-rises : serial_at file at < next_place file
    unfolding next_place next_at serial_at
    serial-rises =
        let w = turn file e k at l h p is in
        let r = length (rows_of file) in
        let d : k + 1 + (r - (k + 1)) ≡ r = omega arith in
        let last : place_after file (k + 1) ≤ place_after file r = rw d at (rises (k + 1) (r - (k + 1)) (omega arith)) in
        omega (arith, last, w.place, row-stands.serial-inside)

  -- a row's serial number is in no row before it
  pub row-is-new : (i at place : ℕ) → i < length (rows_of file) → at ≡ place_after file i → place ≡ serial_at file at
      → known (part place 38 file) (serials_of (take i (rows_of file))) ≡ false
  row-is-new i at place h p is =
      let rows = rows_of file in
      rw (is, ← row-serial-at i at (chunk_at file at) h p refl)
      (sym (known-with (row_no rows i).serial rows i (omega arith)) ∙ rw (row_with-self rows [] i h (file-fresh file)) (le-ltb i i (omega arith)))

  next_fits : next_at file ≤ length file
  unfolding next_at
  next_fits = place-fits file e (length (rows_of file)) (omega arith)

  next-is : next_at file ≡ place_after file (length (rows_of file))
  unfolding next_at
  next-is = refl

  -- the chunk behind the last row is whole
  module _ (z : chunk_fault (is_llc file) (mark_of file) (drop (next_at file) file) ≡ 0) where
    next-number : (chunk_at file (next_at file)).number ≡ 0
    unfolding chunk_at
    next-number = layout-number (is_llc file) (mark_of file) (drop (next_at file) file) ∙ z

    next-stands : Stands file (next_at file) (chunk_at file (next_at file))
    next-stands = stands file (next_at file) (chunk_at file (next_at file)) next_fits refl next-number

    pub next-serial-is : next_serial file ≡ part (next_place file) 38 file
    unfolding next_serial next_place
    next-serial-is = next-stands.serial-is

    pub next-inside : next_place file + 38 ≤ length file
    unfolding next_place
    next-inside = omega (arith, next-stands.serial-inside, next-stands.inside)

    -- row k has its serial number
    pub next-again : (k at : ℕ) (l : Layout) → k < length (rows_of file) → at ≡ place_after file k → l ≡ chunk_at file at
        → same_serial (next_serial file) (row_no (rows_of file) k).serial ≡ true → Again file (serial_at file at) (next_place file)
    next-again k at l h p is q =
        let same = same_first (next_serial file) (row_no (rows_of file) k).serial q in
        record {
          behind = serial-rises k at l h p is;
          inside = omega (arith, next-inside);
          same =
              sym (thirty-five file (next_place file)) ∙ ap (take 35) (sym next-serial-is) ∙ same
              ∙ ap (take 35) (row-serial-at k at l h p is) ∙ thirty-five file (serial_at file at);
        }

    -- it is no row: so its serial number is in one
    pub next-repeats : Repeats file (length (rows_of file))
    unfolding next_serial
    next-repeats =
        let r = length (rows_of file) in
        let at = next_at file in
        let w = next-stands in
        let x = serial_of (mark_of file) (drop at file) in
        test (known x (serials_of (take r (rows_of file))))
        (λ q. q)
        (λ q.
        let t = step-turn file e r at (omega arith) next-is (λ y. omega (arith, w.some, w.inside)) (chunk_at file at) refl next-number
        (known x (serials_of (take r (rows_of file)))) x refl refl q in
        absurd (omega (arith, t.row)))

before-or-at : {A : Type 0} (a b : ℕ) → a < b + 1 → (a < b → A) → (b ≡ a → A) → A
before-or-at a b h f g = test (ltb a b) (λ q. f (ltb-true a b q)) (λ q. g (omega (arith, ltb-false a b q)))

-- ---- the rows in the filter

pub marked-none : (file words : List ℕ) → length words ≡ size → Marked file 0 words
marked-none file words long = record { long = long; marks = λ k. untrue (sym (known-none (next_serial file) (rows_of file)) ∙ k) }

-- row k is set, and what was set before stays
pub marked_more : (file : List ℕ) (e : header_fault file ≡ 0) (k at : ℕ) (l : Layout) → k < length (rows_of file) → at ≡ place_after file k
    → l ≡ chunk_at file at → {words : List ℕ} → Marked file k words → {after : List ℕ} → length after ≡ length words
    → covered_by after (hash_of (part (serial_at file at) 38 file)) ≡ true
    → ((g : ℕ) → covered_by words g ≡ true → covered_by after g ≡ true) → Marked file (k + 1) after
marked_more file e k at l h p is {words} w {after} long new stays =
    let x = next_serial file in
    record {
      long = long ∙ w.long;
      marks = λ r.
          or-true (known x (serials_of (take k (rows_of file)))) (same_serial x (row_no (rows_of file) k).serial)
          (sym (known_more x (rows_of file) k h) ∙ rw add-one at r)
          (λ q. stays (hash_of x) (w.marks q))
          (λ q. rw (same-hash x (row_no (rows_of file) k).serial q, row-serial-at file e k at l h p is) new);
    }

-- one hash more in the filter
module _ (words : List ℕ) (long : length words ≡ size) (h : ℕ) where
  wide : 196613 < length words
  wide = omega (arith, long, sized)

  pub set-covers : covered_by (covering h words) h ≡ true
  set-covers = covering-covers h words wide

  pub set-stays : (g : ℕ) → covered_by words g ≡ true → covered_by (covering h words) g ≡ true
  set-stays g q = covering-keeps h g words wide q

pub marked-set : (file : List ℕ) (e : header_fault file ≡ 0) (k at : ℕ) (l : Layout) → k < length (rows_of file) → at ≡ place_after file k
    → l ≡ chunk_at file at → {words : List ℕ} → Marked file k words → (place : ℕ) → place ≡ serial_at file at → {after : List ℕ}
    → after ≡ covering (hash_of (part place 38 file)) words → Marked file (k + 1) after
marked-set file e k at l h p is {words} w place q e2 =
    let g = hash_of (part (serial_at file at) 38 file) in
    let covers = rw q at e2 in
    rw covers
    (marked_more file e k at l h p is w (covering-long g words) (set-covers words w.long g) (set-stays words w.long g))

-- ---- a place noted

-- the places with one more behind them
noted_more : (places : List ℕ) (m v : ℕ) → m < length places → take (m + 1) (set places m v) ≡ take m places ++ (v ∷ [])
noted_more places m v h = rw add-one (take-suc-set places m v h)

module _ (file words places : List ℕ) (long : length words ≡ size) (p m : ℕ) (few : m < length places) (h : ℕ)
    (is : h ≡ hash_of (part p 38 file)) where
  pub candidate-noted : covered_by words h ≡ true → Considered file p m words places (m + 1) words (set places m p)
  candidate-noted q =
      let all = noted_more places m p few in
      record {
        long = refl;
        wide = length-set places m p;
        more = (omega arith, omega arith);
        new = λ c. rw all (listed_here (take m places) p);
        set = rw (← is) q;
        stays = λ g c. c;
        kept = λ b c. rw all (listed_more (take m places) b p c);
      }

  pub candidate-set : covered_by words h ≡ false → Considered file p m words places m (covering h words) places
  candidate-set q =
      record {
        long = covering-long h words;
        wide = refl;
        more = (omega arith, omega arith);
        new = λ c. untrue (sym q ∙ rw (← is) at c);
        set = rw (← is) (set-covers words long h);
        stays = set-stays words long h;
        kept = λ b c. c;
      }

-- ---- the chunks looked at

-- from the place `at` behind i rows the look has come to the place p, behind j chunks, with m places noted
pub record Looking (file : List ℕ) (i at p j m : ℕ) (words places : List ℕ) : Type 0 where
  pub looked : Looked file j (take m places)
  pub few : m ≤ room
  pub long : length words ≡ size
  pub wide : length places ≡ room
  pub inside : p ≤ length file
  pub counted : j + at ≤ i + p
  pub place : j ≤ length (rows_of file) → p ≡ place_after file j
  pub marked : j ≤ length (rows_of file) → Marked file j words

pub looking-first : (file : List ℕ) (e : header_fault file ≡ 0) (i at : ℕ) (words places : List ℕ) → i ≤ length (rows_of file)
    → at ≡ place_after file i → Marked file i words → length places ≡ room → Looking file i at at i 0 words places
looking-first file e i at words places h p w wide =
    record {
      looked = record { whole = λ l. absurd (omega arith); found = λ l. absurd (omega arith) };
      few = omega arith;
      long = w.long;
      wide = wide;
      inside = rw p (place-fits file e i h);
      counted = omega arith;
      place = λ l. p;
      marked = λ l. w;
    }

module _ {file : List ℕ} (e : header_fault file ≡ 0) {i at p j m : ℕ} {words places : List ℕ} (w : Looking file i at p j m words places)
    (l : Layout) (is : l ≡ chunk_at file p) (z : l.number ≡ 0) where
  here : Stands file p l
  here = stands file p l w.inside is z

  -- the chunk behind the last row
  at_next : j ≡ length (rows_of file) → p ≡ next_at file
  unfolding next_at
  at_next q = w.place (omega arith) ∙ ap (place_after file) q

  next-whole : j ≡ length (rows_of file) → chunk_fault (is_llc file) (mark_of file) (drop (next_at file) file) ≡ 0
  next-whole q = rw (← at_next q) here.unfaulted

  next-covered : j ≡ length (rows_of file) → covered_by words (hash_of (part (serial_at file p) 38 file)) ≡ true
  unfolding next_place
  next-covered q =
      let whole = next-whole q in
      let marks = (w.marked (omega arith)).marks (rw q (next-repeats file e whole)) in
      rw (at_next q, ← next-serial-is file e whole) marks

  module _ {r : ℕ} {words' places' : List ℕ} (few : m < room) (s : Considered file (serial_at file p) m words places r words' places') where
    more-noted : length (rows_of file) < j + 1 → listed (next_place file) (take r places') ≡ true
    unfolding next_place
    more-noted h =
        before-or-at (length (rows_of file)) j h
        (λ b. s.kept (next_place file) (w.looked.found b))
        (λ q. rw (← at_next q) (s.new (next-covered q)))

    pub looking-more : Looking file i at (p + l.end) (j + 1) r words' places'
    looking-more =
        record {
          looked =
              record {
                whole = λ h. before-or-at (length (rows_of file)) j h (λ b. w.looked.whole b) next-whole;
                found = more-noted;
              };
          few = omega (arith, s.more.1);
          long = s.long ∙ w.long;
          wide = s.wide ∙ w.wide;
          inside = here.inside;
          counted = omega (arith, w.counted, here.some);
          place = λ h. (turn file e j p l (omega arith) (w.place (omega arith)) is).place;
          marked = λ h.
              marked_more file e j p l (omega arith) (w.place (omega arith)) is (w.marked (omega arith)) s.long s.set s.stays;
        }

-- what was looked at, with the places sorted
pub looked-kept : {file : List ℕ} {n : ℕ} {noted after : List ℕ} → Looked file n noted → Kept noted after → Looked file n after
looked-kept w k = record { whole = w.whole; found = λ h. k.kept _ (w.found h) }

-- ---- the hashes of the places noted

pub hashed-none : (file noted words : List ℕ) → Hashed file (take 0 noted) words
unfolding listed
hashed-none file noted words = record { covers = λ b q h. untrue q }

-- the place q is number t of those noted
module _ {file : List ℕ} (noted : List ℕ) (t : ℕ) {words : List ℕ} (w : Hashed file (take t noted) words) (inside : t < length noted)
    (q : ℕ) (is : q ≡ get_or noted t 0) where
  noted-next : take (t + 1) noted ≡ take t noted ++ (q ∷ [])
  noted-next = rw (add-one, take-suc noted t 0 inside, is)

  pub hashed-far : (q + 38 ≤ length file → ⊥) → Hashed file (take (t + 1) noted) words
  hashed-far f =
      record {
        covers = λ b l h.
            listed-split (take t noted) b q (rw noted-next at l)
            (λ c. w.covers b c h)
            (λ c. absurd (f (rw c at h)));
      }

  pub hashed-more : length words ≡ size → Hashed file (take (t + 1) noted) (covering (hash_of (part q 38 file)) words)
  hashed-more long =
      let g = hash_of (part q 38 file) in
      record {
        covers = λ b l h.
            listed-split (take t noted) b q (rw noted-next at l)
            (λ c. set-stays words long g (hash_of (part b 38 file)) (w.covers b c h))
            (λ c. rw c (set-covers words long g));
      }

pub hashed-all : {file : List ℕ} (noted : List ℕ) (t : ℕ) {words : List ℕ} → Hashed file (take t noted) words → length noted ≤ t
    → Hashed file noted words
hashed-all noted t w h = rw (take_all t noted h) at w

-- ---- the first place noted behind another with its serial number

pub before-none : {file noted words : List ℕ} → Hashed file noted words → (p r : ℕ)
    → covered_by words (hash_of (part p 38 file)) ≡ false → Before file noted p r
before-none {file} w p r q =
    record { first = λ b l h a. untrue (sym q ∙ rw (← hash-of file p b a.same) (w.covers b l h)) }

pub before-next : {file noted : List ℕ} {p r : ℕ} → Next file noted p r → Before file noted p r
before-next n = record { first = λ b l h a. n.first b l a }

pub before-less : {file noted : List ℕ} {p r s : ℕ} → Before file noted p r → s ≤ r → Before file noted p s
before-less w h = record { first = λ b l i a. omega (arith, w.first b l i a) }

-- ---- the chunks compared

-- k chunks are compared, the last of them at `last`, the next is at `at`, and the repeat of one of them, if there is any, isn't
-- before `least`
pub record Comparing (file : List ℕ) (n k at last least : ℕ) : Type 0 where
  pub ahead : Known file k last
  pub place : at ≡ place_after file k
  pub least-is : length (rows_of file) < n → Repeats file k → least ≤ next_place file

pub ahead_none : (file : List ℕ) → Known file 0 0
ahead_none file = record { there = omega arith; inside = omega arith; begins = λ h. absurd (omega arith) }

pub comparing-first : (file : List ℕ) (e : header_fault file ≡ 0) (n at least : ℕ) → at ≡ header_end file → Comparing file n 0 at 0 least
comparing-first file e n at least p =
    record {
      ahead = ahead_none file;
      place = p ∙ sym (place_none file e);
      least-is = λ h q. untrue (sym (known-none (next_serial file) (rows_of file)) ∙ q);
    }

module _ {file : List ℕ} (e : header_fault file ≡ 0) {n k at last least : ℕ} {noted : List ℕ} (s : Looked file n noted)
    (w : Comparing file n k at last least) (h : k < n) where
  -- the chunk is whole: it is a row, or the chunk behind the last
  pub compared_whole : chunk_fault (is_llc file) (mark_of file) (drop at file) ≡ 0
  unfolding next_at
  compared_whole =
      before-or-at k (length (rows_of file)) (omega (arith, w.ahead.there))
      (λ b. rw w.place (row-unfaulted file e k b))
      (λ q. rw (w.place, ← q) (s.whole (omega arith)))

  -- it is a row where its serial number comes before the repeat
  pub compared-row : serial_at file at < least → k < length (rows_of file)
  unfolding next_at next_place
  compared-row l =
      before-or-at k (length (rows_of file)) (omega (arith, w.ahead.there))
      (λ b. b)
      (λ q.
      let whole = s.whole (omega arith) in
      let found = w.least-is (omega arith) (rw (← q) (next-repeats file e whole)) in
      let place : at ≡ place_after file (length (rows_of file)) = w.place ∙ ap (place_after file) (sym q) in
      absurd (omega (arith, found, ap (serial_at file) place)))

  module _ (l : Layout) (is : l ≡ chunk_at file at) (row : k < length (rows_of file)) where
    ahead_more : Known file (k + 1) at
    ahead_more =
        let t = turn file e k at l row w.place is in
        let one : k + 1 - 1 ≡ k = omega arith in
        record { there = omega arith; inside = omega (arith, t.inside); begins = λ i. rw one w.place }

    pub compared-more : (r : ℕ) → r ≤ least → Before file noted (serial_at file at) r → Comparing file n (k + 1) (at + l.end) at r
    compared-more r less b =
        let x = next_serial file in
        record {
          ahead = ahead_more;
          place = (turn file e k at l row w.place is).place;
          least-is = λ i q.
              let whole = s.whole i in
              or-true (known x (serials_of (take k (rows_of file)))) (same_serial x (row_no (rows_of file) k).serial)
              (sym (known_more x (rows_of file) k row) ∙ rw add-one at q)
              (λ c. omega (arith, w.least-is i c))
              (λ c.
              b.first (next_place file) (s.found i) (next-inside file e whole) (next-again file e whole k at l row w.place is c));
        }
