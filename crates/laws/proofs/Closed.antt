-- What the writer puts as a closing behind some bytes is read back: no fault, the sum good, each line as given.
--     fixed-formed      a fixed text needs no value
--     closed-length closed_run closed-good closed-serial, closed-..: the closing behind `before`, with t behind it
-- Assumes nothing.
use Prim.Native.Nat.{ℕ, ◌+◌, ◌^◌, ◌≤◌, ◌<◌}
use mathlib.Core.Bool.{true}
use mathlib.Core.Path.{◌≡◌, refl, sym, ◌∙◌}
use mathlib.Core.List.{List, [], ◌∷◌, ◌++◌, append_assoc}
use native.Mathlib.Omega.{arith}
use native.Mathlib.Nat.{le_refl}
use lib.ListN.{length, take, length-append}
use lib.Seq.{take_all, take_at, drop_at, take-length, drop-append-add}
use borrow.Author.Tests.{eq-eqb, le-leb}
use Rattle.metafile.specs.Bytes.{part, require, same, sum}
use Rattle.metafile.specs.Fields.{digits_of, padded}
use Rattle.metafile.specs.Lines.{count, text, date, serial, Field, fixed, value, lf, lines_of, width, field_width, kind_fault, fault, fixed_fault, count_fault, size, run, first_of, others_of, put, left, write, formed, chunk_serial, recording_date, recording_agent, writing_date, writing_agent, checksum}
use Rattle.metafile.specs.Closing.{integrity_lines, summed, unsummed, closing, sum_place, closing_serial, sum_good, Integrity, integrity_values, summed_bytes, closing_bytes}
use Rattle.laws.proofs.First.{⊳-both, require-met}
use Rattle.laws.proofs.Lists.{same_refl}
use Rattle.laws.proofs.Digits.{count_value-digits_of, length-digits_of, count-digits_of, sum_below}
use Rattle.laws.proofs.Table.{field-long, run-split, write-size, write-run, write-at, formed-split, lefts}
use Rattle.laws.proofs.Distances.{lines, size-summed, size-unsummed}

-- ---- what is formed

pub fixed-formed : (b : List ℕ) (fs : List Field) (vs : List (List ℕ)) → formed (fixed b ∷ fs) vs ≡ formed fs vs
unfolding formed put left field_width fault fixed_fault
fixed-formed b fs vs =
    rw (
      eq-eqb (length b) (length b) refl,
      field-long (length b) (fixed_fault b) b (le_refl (length b)),
      take-length b,
      require-met (same b b) 5 (same_refl b),
    )

-- a number below 10^n in n digits, not above the field's bound
pub count-formed : (n most x : ℕ) (fs : List Field) (vs : List (List ℕ)) → 0 < n → x < 10 ^ n → x ≤ most
    → formed (value (count n most) ∷ fs) (digits_of n x ∷ vs) ≡ formed fs vs
unfolding formed put left field_width width fault kind_fault count_fault first_of others_of
count-formed n most x fs vs some h l =
    let long : n ≤ length (digits_of n x) = omega (arith, length-digits_of n x) in
    let whole : take n (digits_of n x) ≡ digits_of n x = take_all n (digits_of n x) (omega (arith, length-digits_of n x)) in
    rw (
      eq-eqb (length (digits_of n x)) n (length-digits_of n x),
      field-long n (count_fault most) (digits_of n x) long,
      whole,
      count-digits_of n x some,
      count_value-digits_of n x h,
      le-leb x most l,
    )
    (unfold require in refl)

module _ (m : List ℕ) (i : Integrity) (e : formed (lines_of integrity_lines) (integrity_values i) ≡ true) where
  pub summed-formed : formed (summed m) (integrity_values i) ≡ true
  unfolding summed formed
  summed-formed =
      rw (
        fixed-formed m (lines_of integrity_lines ++ fixed checksum.label ∷ []) (integrity_values i),
        formed-split (lines_of integrity_lines) (fixed checksum.label ∷ []) (integrity_values i),
        e,
        fixed-formed checksum.label [] (lefts (lines_of integrity_lines) (integrity_values i)),
      )

  pub unsummed-formed : (x : ℕ) → x < 256 → formed (unsummed m) (digits_of 3 x ∷ []) ≡ true
  unfolding unsummed checksum lf formed
  unsummed-formed x h =
      rw (count-formed 3 255 x (fixed (10 ∷ []) ∷ fixed m ∷ []) [] (omega arith) (omega arith) (omega arith), fixed-formed (10 ∷ []) (fixed m ∷ []) [], fixed-formed m [] [])

  -- ---- behind some bytes

  module _ (before : List ℕ) where
    total : ℕ
    total = sum (before ++ summed_bytes m i)

    tail : List ℕ
    tail = write (unsummed m) (digits_of 3 total ∷ [])

    is-closing : closing_bytes m i before ≡ summed_bytes m i ++ tail
    unfolding closing_bytes tail total
    is-closing = refl

    tail-formed : formed (unsummed m) (digits_of 3 total ∷ []) ≡ true
    unfolding total
    tail-formed = unsummed-formed (sum (before ++ summed_bytes m i)) (sum_below (before ++ summed_bytes m i))

    length-summed : length (summed_bytes m i) ≡ length m + 250
    unfolding summed_bytes
    length-summed = write-size (summed m) (integrity_values i) summed-formed ∙ size-summed m

    length-tail : length tail ≡ 4 + length m
    unfolding tail
    length-tail = write-size (unsummed m) (digits_of 3 total ∷ []) tail-formed ∙ size-unsummed m

    pub closed-length : length (closing_bytes m i before) ≡ length m + 254 + length m
    closed-length = rw is-closing (simp length-append (omega (arith, length-summed, length-tail)))

    pub closed_run : (t : List ℕ) → run (closing m) (closing_bytes m i before ++ t) ≡ 0
    unfolding closing summed_bytes tail
    closed_run t =
        rw (is-closing, append_assoc (summed_bytes m i) tail t, run-split (summed m) (unsummed m))
        (⊳-both _ _ (write-run (summed m) (integrity_values i) (tail ++ t) summed-formed)
        (rw (drop_at (summed_bytes m i) (tail ++ t) (size (summed m)) (length-summed ∙ sym (size-summed m))) (write-run (unsummed m) (digits_of 3 total ∷ []) t tail-formed)))

    -- a part of the closing, from the bytes before it on
    closed-part : (d w : ℕ) (t : List ℕ) → part (length before + length m + d) w (before ++ (closing_bytes m i before ++ t)) ≡ part (length m + d) w (closing_bytes m i before ++ t)
    closed-part d w t =
        let sums : length before + length m + d ≡ length before + (length m + d) = omega arith in
        rw (sums, drop-append-add before (closing_bytes m i before ++ t) (length m + d))

    -- a value of the lines that are summed, at its distance
    summed_at : (a : List Field) (f : Field) (b : List Field) (d w : ℕ) (t : List ℕ) → summed m ≡ a ++ f ∷ b → size a ≡ length m + d → field_width f ≡ w
        → part (length before + length m + d) w (before ++ (closing_bytes m i before ++ t)) ≡ put f (lefts a (integrity_values i))
    unfolding summed_bytes
    summed_at a f b d w t is ea ew =
        closed-part d w t
        ∙ rw (is-closing, append_assoc (summed_bytes m i) tail t, is) (write-at a f b (integrity_values i) (tail ++ t) (length m + d) w ea ew (rw is at summed-formed))

    pub closed-serial : (t : List ℕ) → closing_serial (length before) m (before ++ (closing_bytes m i before ++ t)) ≡ i.serial
    unfolding lines summed closing_serial put left lefts first_of others_of integrity_values
    closed-serial t =
        summed_at (fixed m ∷ fixed chunk_serial.label ∷ []) (value serial)
        (lf ∷ lines_of (recording_date ∷ recording_agent ∷ writing_date ∷ writing_agent ∷ []) ++ fixed checksum.label ∷ [])
        20 38 t refl (omega arith) refl

    pub closed-recording-date : (t : List ℕ) → part (length before + length m + 80) 8 (before ++ (closing_bytes m i before ++ t)) ≡ i.recording_date
    unfolding lines summed put left lefts first_of others_of integrity_values
    closed-recording-date t =
        summed_at (fixed m ∷ lines_of (chunk_serial ∷ []) ++ fixed recording_date.label ∷ []) (value date)
        (lf ∷ lines_of (recording_agent ∷ writing_date ∷ writing_agent ∷ []) ++ fixed checksum.label ∷ [])
        80 8 t refl (omega arith) refl

    pub closed-recording-agent : (t : List ℕ) → part (length before + length m + 111) 32 (before ++ (closing_bytes m i before ++ t)) ≡ padded 32 i.recording_agent
    unfolding lines summed put left lefts first_of others_of integrity_values
    closed-recording-agent t =
        summed_at (fixed m ∷ lines_of (chunk_serial ∷ recording_date ∷ []) ++ fixed recording_agent.label ∷ []) (value (text 32))
        (lf ∷ lines_of (writing_date ∷ writing_agent ∷ []) ++ fixed checksum.label ∷ [])
        111 32 t refl (omega arith) refl

    pub closed-writing-date : (t : List ℕ) → part (length before + length m + 163) 8 (before ++ (closing_bytes m i before ++ t)) ≡ i.writing_date
    unfolding lines summed put left lefts first_of others_of integrity_values
    closed-writing-date t =
        summed_at (fixed m ∷ lines_of (chunk_serial ∷ recording_date ∷ recording_agent ∷ []) ++ fixed writing_date.label ∷ []) (value date)
        (lf ∷ lines_of (writing_agent ∷ []) ++ fixed checksum.label ∷ [])
        163 8 t refl (omega arith) refl

    pub closed-writing-agent : (t : List ℕ) → part (length before + length m + 192) 32 (before ++ (closing_bytes m i before ++ t)) ≡ padded 32 i.writing_agent
    unfolding lines summed put left lefts first_of others_of integrity_values
    closed-writing-agent t =
        summed_at (fixed m ∷ lines_of (chunk_serial ∷ recording_date ∷ recording_agent ∷ writing_date ∷ []) ++ fixed writing_agent.label ∷ []) (value (text 32))
        (lf ∷ fixed checksum.label ∷ [])
        192 32 t refl (omega arith) refl

    tail-digits : (t : List ℕ) → part 0 3 (tail ++ t) ≡ digits_of 3 total
    unfolding tail unsummed lines put lefts first_of
    tail-digits t = write-at [] (value checksum.kind) (lf ∷ fixed m ∷ []) (digits_of 3 total ∷ []) t 0 3 refl refl tail-formed

    pub closed-good : (t : List ℕ) → sum_good (length before) m (before ++ (closing_bytes m i before ++ t)) ≡ true
    unfolding sum_good sum_place total
    closed-good t =
        let whole : before ++ (closing_bytes m i before ++ t) ≡ (before ++ summed_bytes m i) ++ (tail ++ t) = rw is-closing (simp append_assoc) in
        let long : length (before ++ summed_bytes m i) ≡ length before + length m + 250 = simp length-append (omega (arith, length-summed)) in
        rw (
          whole,
          take_at (before ++ summed_bytes m i) (tail ++ t) (length before + length m + 250) long,
          drop_at (before ++ summed_bytes m i) (tail ++ t) (length before + length m + 250) long,
          tail-digits t,
        )
        (eq-eqb _ _ (count_value-digits_of 3 (sum (before ++ summed_bytes m i)) (omega (arith, sum_below (before ++ summed_bytes m i)))))
