-- The starred cases of 'Checked by hand', as one theorem over the definitions that the contracts cite, by computing.
-- Assumes nothing.
use mathlib.Core.Bool.{true, false}
use mathlib.Core.Path.{◌≡◌, refl}
use mathlib.Core.List.{[], ◌∷◌}
use lib.IntN.{pos, neg_ℤ}
use lib.ListN.{take, drop, replicate}
use Rattle.metafile.specs.Bytes.{bytes, part, total}
use Rattle.metafile.specs.Fields.{offset_value}
use Rattle.metafile.specs.Lines.{serial, date, offset, kind_fault}
use Rattle.metafile.specs.Chunk.{dependency_length_for, header_length_for, chunk_fault, chunk_end}
use Rattle.metafile.specs.Answers.{result, refused}
use Rattle.metafile.specs.Begin.{begin}
use Rattle.metafile.specs.Append.{append}
use Rattle.metafile.proofs.Computed.{computed}
use Rattle.metafile.proofs.Samples.{paper_serial, file_serial, text256, text32, to_begin, described, to_append, lent, begun_llc, begun_abab}

pub record Starred : Type 0 where
  -- (a) "The serial above is right (sum 2049); ending 002: 6."
  pub serial-right : kind_fault serial paper_serial ≡ 0
  pub serial-sum : total (take 35 paper_serial) ≡ 2049
  pub serial-wrong : kind_fault serial (bytes "#20240229123456789SURVEYDESK0100042002") ≡ 6
  -- (b) "Random 65535 fits, 65536: 6." Both have the right check.
  pub random-fits : kind_fault serial (bytes "#20240229123456789SURVEYDESK0165535019") ≡ 0
  pub random-over : kind_fault serial (bytes "#20240229123456789SURVEYDESK0165536020") ≡ 6
  -- (c) "20240229 and 20000229 are dates, 20230229 and 19000229 aren't."
  pub leap-2024 : kind_fault date (bytes "20240229") ≡ 0
  pub leap-2000 : kind_fault date (bytes "20000229") ≡ 0
  pub no-leap-2023 : kind_fault date (bytes "20230229") ≡ 6
  pub no-leap-1900 : kind_fault date (bytes "19000229") ≡ 6
  -- (d) ""+0000      8.035" is 80,350,000,000; "-0100      0.000" is -36,000,000,000,000; N11 of one point: 6."
  pub offset-plus : offset_value (bytes "+0000      8.035") ≡ pos 80350000000
  pub offset-plus-read : kind_fault offset (bytes "+0000      8.035") ≡ 0
  pub offset-minus : offset_value (bytes "-0100      0.000") ≡ neg_ℤ (pos 36000000000000)
  pub offset-minus-read : kind_fault offset (bytes "-0100      0.000") ≡ 0
  pub offset-point : kind_fault offset (bytes "+0000          .") ≡ 6
  -- (e) "n = 0, 1, s = 0: lengths 29, 373 and 536, 880."
  pub dependency-length-0 : dependency_length_for 0 ≡ 29
  pub dependency-length-1 : dependency_length_for 1 ≡ 373
  pub header-length-0 : header_length_for 0 0 ≡ 536
  pub header-length-1 : header_length_for 1 0 ≡ 880
  -- (f) "Begun file: 319 bytes with no mark, 499 with 90."
  pub begun-319 : (begin (to_begin (bytes "LLC") []) (replicate 319 7)).answer ≡ result (319 ∷ [])
  pub begun-499 : (begin (to_begin (bytes "NUL") (replicate 90 42)) (replicate 499 7)).answer ≡ result (499 ∷ [])
  -- (g) "Empty contents, LLC000: count 1, chunk 856 bytes."
  pub empty-ends : (append (lent begun_llc) 319 (to_append paper_serial [] false)).answer ≡ result (921 ∷ 921 ∷ 1175 ∷ [])
  pub empty-count : part 908 12 (append (lent begun_llc) 319 (to_append paper_serial [] false)).buffer ≡ bytes "000000000001"
  pub empty-chunk : chunk_end [] (drop 319 (append (lent begun_llc) 319 (to_append paper_serial [] false)).buffer) ≡ 856
  pub empty-whole : chunk_fault true [] (drop 319 (append (lent begun_llc) 319 (to_append paper_serial [] false)).buffer) ≡ 0
  -- (h) "Mark ABAB, open: data QA is taken, QAB gets 16."
  pub open-taken : (append (lent begun_abab) 327 (to_append paper_serial (bytes "QA") true)).answer ≡ result (929 ∷ 931 ∷ 1193 ∷ [])
  pub open-refused : (append (lent begun_abab) 327 (to_append paper_serial (bytes "QAB") true)).answer ≡ refused 16

pub starred : Starred
unfolding computed paper_serial file_serial text256 text32 to_begin described to_append lent begun_llc begun_abab
starred =
    record {
      serial-right = refl;
      serial-sum = refl;
      serial-wrong = refl;
      random-fits = refl;
      random-over = refl;
      leap-2024 = refl;
      leap-2000 = refl;
      no-leap-2023 = refl;
      no-leap-1900 = refl;
      offset-plus = refl;
      offset-plus-read = refl;
      offset-minus = refl;
      offset-minus-read = refl;
      offset-point = refl;
      dependency-length-0 = refl;
      dependency-length-1 = refl;
      header-length-0 = refl;
      header-length-1 = refl;
      begun-319 = refl;
      begun-499 = refl;
      empty-ends = refl;
      empty-count = refl;
      empty-chunk = refl;
      empty-whole = refl;
      open-taken = refl;
      open-refused = refl;
    }
