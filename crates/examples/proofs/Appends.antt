-- Accepted appends and begun files that the checker computes: the answer and the whole buffer, the new bytes written
-- out as text; and that accepted appends of each sort exist. Assumes nothing.
use Prim.Native.Nat.{ℕ, ◌≤◌}
use mathlib.Core.Bool.{true, false}
use mathlib.Core.Path.{◌≡◌, refl}
use mathlib.Core.List.{List, [], ◌∷◌, ◌++◌}
use lib.Dec.{lit≤}
use lib.ListN.{length, replicate}
use Rattle.metafile.specs.Bytes.{bytes}
use Rattle.metafile.specs.Reading.{reading, is_clean}
use Rattle.metafile.specs.Answers.{result}
use Rattle.metafile.specs.Begin.{begun_file, begin}
use Rattle.metafile.specs.Append.{Given, append}
use Rattle.metafile.specs.Demand.{Accepted}
use Rattle.metafile.proofs.Samples.{to_begin, described, to_append, begun_llc}
use Rattle.examples.proofs.Texts.{serial42, serial43, serial44, integrity_text, header_llc, header_abab, test_format, other_format, head_text, plain_header, dependency_text, content_text, chunk_abc, chunk_other, texts}

-- ---- begin: "writes these bytes at the start of a lent buffer and answers their number"

pub begin-LLC :
    begin (to_begin (bytes "LLC") []) (replicate 400 7)
    ≡ record { answer = result (319 ∷ []); buffer = header_llc ++ replicate 81 7 }
unfolding texts
begin-LLC = refl

-- a begun file: "A file may hold no chunk.", "Clean means number 0 and stop at the file's end."
pub record BegunClean (file : List ℕ) (end : ℕ) : Type 0 where
  pub whole : reading file ≡ record { rows = []; stop = end; good = true; number = 0 }
  pub clean : is_clean file (reading file) ≡ true

-- "Begun file: 319 bytes with no mark, 499 with 90."
pub begun-clean : BegunClean begun_llc 319 × BegunClean (begun_file (to_begin (bytes "NUL") (replicate 90 42))) 499
unfolding texts
begun-clean = (record { whole = refl; clean = refl }, record { whole = refl; clean = refl })

-- ---- append: "The answer is the three ends.", "Bytes past the new end keep their state"

-- counted: "The count is the data's length plus 1."
pub append-counted :
    append (header_llc ++ replicate 1000 7) 319 (to_append (bytes serial42) (bytes "abc") false)
    ≡ record { answer = result (921 ∷ 924 ∷ 1178 ∷ []); buffer = header_llc ++ chunk_abc ++ replicate 141 7 }
unfolding texts
append-counted = refl

-- the new end is the buffer's end
pub append-fits :
    append (header_llc ++ replicate 859 7) 319 (to_append (bytes serial42) (bytes "abc") false)
    ≡ record { answer = result (921 ∷ 924 ∷ 1178 ∷ []); buffer = header_llc ++ chunk_abc }
unfolding texts
append-fits = refl

-- open: "Under NUL 0 means open"; "Mark ABAB, open: data QA is taken"
pub append-open :
    append (header_abab ++ replicate 1000 7) 327 (to_append (bytes serial42) (bytes "QA") true)
    ≡ record {
      answer = result (929 ∷ 931 ∷ 1193 ∷ []);
      buffer =
          header_abab
          ++ plain_header test_format
          ++ content_text "000000000000"
          ++ bytes "QA"
          ++ bytes "ABAB"
          ++ integrity_text serial42 "232"
          ++ bytes "ABAB"
          ++ replicate 134 7;
    }
unfolding texts
append-open = refl

-- with parents: "Each parent's serial and sub-format are copied from its chunk, in the order given."

-- row 1 is named before row 0
unfoldable pub with_parents : Given
with_parents =
    record {
      description = described (bytes serial44);
      parents = 1 ∷ 0 ∷ [];
      specific = [];
      contents = bytes "xyz";
      is_open = false;
    }

pub append-with-parents :
    append (header_llc ++ chunk_abc ++ chunk_other ++ replicate 1600 7) 2034 with_parents
    ≡ record {
      answer = result (3324 ∷ 3327 ∷ 3581 ∷ []);
      buffer =
          header_llc
          ++ chunk_abc
          ++ chunk_other
          ++ head_text "000000001224" test_format "000000000717" "0002"
          ++ bytes "\n"
          ++ dependency_text serial43 other_format
          ++ dependency_text serial42 test_format
          ++ content_text "000000000004"
          ++ bytes "xyz"
          ++ integrity_text serial44 "196"
          ++ replicate 53 7;
    }
unfolding texts with_parents
append-with-parents = refl

-- with specific data: "s free bytes", also zero ones
unfoldable pub with_specific : Given
with_specific =
    record {
      description = described (bytes serial42);
      parents = [];
      specific = 0 ∷ 1 ∷ 0 ∷ 0 ∷ [];
      contents = bytes "abc";
      is_open = false;
    }

pub append-with-specific :
    append (header_llc ++ replicate 1000 7) 319 with_specific
    ≡ record {
      answer = result (925 ∷ 928 ∷ 1182 ∷ []);
      buffer =
          header_llc
          ++ head_text "000000000540" test_format "000000000029" "0000"
          ++ bytes "\n"
          ++ (0 ∷ 1 ∷ 0 ∷ 0 ∷ [])
          ++ content_text "000000000004"
          ++ bytes "abc"
          ++ integrity_text serial42 "118"
          ++ replicate 137 7;
    }
unfolding texts with_specific
append-with-specific = refl

-- ---- there are accepted appends of each sort

pub record SomeAccepted (property : Given → Type 0) : Type 0 where
  pub buffer : List ℕ
  pub len : ℕ
  pub given : Given
  pub e₁ : ℕ
  pub e₂ : ℕ
  pub e₃ : ℕ
  pub accepted : Accepted buffer len given e₁ e₂ e₃
  pub holds : property given

pub some-counted : SomeAccepted (λ g. g.is_open ≡ false)
unfolding texts
some-counted =
    record {
      buffer = header_llc ++ replicate 1000 7;
      len = 319;
      given = to_append (bytes serial42) (bytes "abc") false;
      e₁ = 921;
      e₂ = 924;
      e₃ = 1178;
      accepted = refl;
      holds = refl;
    }

pub some-open : SomeAccepted (λ g. g.is_open ≡ true)
unfolding texts
some-open =
    record {
      buffer = header_abab ++ replicate 1000 7;
      len = 327;
      given = to_append (bytes serial42) (bytes "QA") true;
      e₁ = 929;
      e₂ = 931;
      e₃ = 1193;
      accepted = refl;
      holds = refl;
    }

pub some-with-parent : SomeAccepted (λ g. 1 ≤ length g.parents)
unfolding texts with_parents
some-with-parent =
    record {
      buffer = header_llc ++ chunk_abc ++ chunk_other ++ replicate 1600 7;
      len = 2034;
      given = with_parents;
      e₁ = 3324;
      e₂ = 3327;
      e₃ = 3581;
      accepted = refl;
      holds = lit≤ tt;
    }

pub some-with-specific : SomeAccepted (λ g. 1 ≤ length g.specific)
unfolding texts with_specific
some-with-specific =
    record {
      buffer = header_llc ++ replicate 1000 7;
      len = 319;
      given = with_specific;
      e₁ = 925;
      e₂ = 928;
      e₃ = 1182;
      accepted = refl;
      holds = lit≤ tt;
    }
