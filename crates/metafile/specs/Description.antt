-- The chunk description: what each of its methods hands back. Assumes nothing.
use Rattle.std.specs.Prelude.{ℕ, List, length, take, replicate}
use Rattle.metafile.specs.declared.Text256.{Text256}
use Rattle.metafile.specs.declared.Text32.{Text32}
use Rattle.metafile.specs.declared.Description.{Description}
use Rattle.metafile.specs.Fields.{padded}

-- a text as it is given: its first bytes, with spaces behind a shorter one, and its whole length
abbrev pub text256 : List ℕ → Text256
text256 t = record { bytes = take 256 (padded 256 t); given = length t }

abbrev pub text32 : List ℕ → Text32
text32 t = record { bytes = take 32 (padded 32 t); given = length t }

-- a description of all its fields, in the order of the struct
abbrev pub describe : Text256 → List ℕ → List ℕ → List ℕ → List ℕ → List ℕ → List ℕ → List ℕ → List ℕ → List ℕ → Text32 → List ℕ → Text32 → Description
describe subformat generic synch standard alternate offset event linked serial recorded recorder written writer =
    record {
      subformat = subformat;
      generic = generic;
      synch = synch;
      standard = standard;
      alternate = alternate;
      offset = offset;
      event = event;
      linked = linked;
      serial = serial;
      recorded = recorded;
      recorder = recorder;
      written = written;
      writer = writer;
    }

abbrev pub nothing_given : Description
nothing_given =
    describe (record { bytes = replicate 256 32; given = 0 }) (replicate 3 0) (replicate 3 0) (replicate 3 0) (replicate 38 0) (replicate 16 0)
    (replicate 3 0) (replicate 38 0) (replicate 38 0) (replicate 8 0) (record { bytes = replicate 32 32; given = 0 }) (replicate 8 0)
    (record { bytes = replicate 32 32; given = 0 })

abbrev pub with_sub_format : Description → List ℕ → Description
with_sub_format d t = describe (text256 t) d.generic d.synch d.standard d.alternate d.offset d.event d.linked d.serial d.recorded d.recorder d.written d.writer

abbrev pub with_generic_type : Description → List ℕ → Description
with_generic_type d w = describe d.subformat w d.synch d.standard d.alternate d.offset d.event d.linked d.serial d.recorded d.recorder d.written d.writer

abbrev pub with_synch_type : Description → List ℕ → Description
with_synch_type d w = describe d.subformat d.generic w d.standard d.alternate d.offset d.event d.linked d.serial d.recorded d.recorder d.written d.writer

-- the word, and the 38 bytes beside it
abbrev pub with_standard : Description → List ℕ → List ℕ → Description
with_standard d w v = describe d.subformat d.generic d.synch w v d.offset d.event d.linked d.serial d.recorded d.recorder d.written d.writer

abbrev pub with_offset : Description → List ℕ → Description
with_offset d v = describe d.subformat d.generic d.synch d.standard d.alternate v d.event d.linked d.serial d.recorded d.recorder d.written d.writer

abbrev pub with_event : Description → List ℕ → List ℕ → Description
with_event d w v = describe d.subformat d.generic d.synch d.standard d.alternate d.offset w v d.serial d.recorded d.recorder d.written d.writer

abbrev pub with_serial : Description → List ℕ → Description
with_serial d v = describe d.subformat d.generic d.synch d.standard d.alternate d.offset d.event d.linked v d.recorded d.recorder d.written d.writer

abbrev pub with_recording : Description → List ℕ → List ℕ → Description
with_recording d v t = describe d.subformat d.generic d.synch d.standard d.alternate d.offset d.event d.linked d.serial v (text32 t) d.written d.writer

abbrev pub with_writing : Description → List ℕ → List ℕ → Description
with_writing d v t = describe d.subformat d.generic d.synch d.standard d.alternate d.offset d.event d.linked d.serial d.recorded d.recorder v (text32 t)
