-- Values that the joint proof and the examples are given. Assumes nothing.
use Prim.Native.Nat.{ℕ}
use mathlib.Core.Bool.{Bool}
use mathlib.Core.List.{List, [], ◌++◌}
use lib.ListN.{length, replicate}
use Rattle.metafile.specs.declared.Text256.{Text256}
use Rattle.metafile.specs.declared.Text32.{Text32}
use Rattle.metafile.specs.declared.Description.{Description}
use Rattle.metafile.specs.Bytes.{bytes}
use Rattle.metafile.specs.Fields.{padded}
use Rattle.metafile.specs.Begin.{BeginGiven, begun_file}
use Rattle.metafile.specs.Append.{Given}

-- the serial number of the paper's listing, and others
unfoldable pub paper_serial : List ℕ
paper_serial = bytes "#20240229123456789SURVEYDESK0100042001"

unfoldable pub file_serial : List ℕ
file_serial = bytes "#20240229123456789SURVEYDESK0100007002"

unfoldable pub text256 : List ℕ → Text256
text256 t = record { bytes = padded 256 t; given = length t }

unfoldable pub text32 : List ℕ → Text32
text32 t = record { bytes = padded 32 t; given = length t }

-- a file to begin with this strategy and mark
unfoldable pub to_begin : List ℕ → List ℕ → BeginGiven
to_begin strategy mark =
    record {
      strategy = strategy;
      mark = mark;
      integrity =
          record {
            serial = file_serial;
            recording_date = bytes "20240229";
            recording_agent = bytes "RECORDER";
            writing_date = bytes "20240301";
            writing_agent = bytes "DESK";
          };
    }

-- a chunk of text under UTC
unfoldable pub described : List ℕ → Description
described serial =
    record {
      subformat = text256 (bytes "ADS\\DATA\\TEST");
      generic = bytes "TXT";
      synch = bytes "GEN";
      standard = bytes "UTC";
      alternate = replicate 38 32;
      offset = bytes "+0000      8.035";
      event = bytes "NUL";
      linked = replicate 38 32;
      serial = serial;
      recorded = bytes "20240229";
      recorder = text32 (bytes "RECORDER");
      written = bytes "20240301";
      writer = text32 (bytes "DESK");
    }

unfoldable pub to_append : List ℕ → List ℕ → Bool → Given
to_append serial contents is_open =
    record { description = described serial; parents = []; specific = []; contents = contents; is_open = is_open }

-- a lent buffer that holds a file, and some bytes behind it
unfoldable pub lent : List ℕ → List ℕ
lent file = file ++ replicate 1300 7

unfoldable pub begun_llc : List ℕ
begun_llc = begun_file (to_begin (bytes "LLC") [])

unfoldable pub begun_abab : List ℕ
begun_abab = begun_file (to_begin (bytes "NUL") (bytes "ABAB"))
