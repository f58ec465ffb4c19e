-- The code's table of lines, and what it stands for: the line of the definitions at each number.
-- Assumes nothing.
use Rattle.std.specs.Prelude.{ℕ, ◌-◌, ◌^◌, List, [], ◌∷◌, take, drop, get_or}
use Rattle.table.specs.declared.Kind.{Kind as Code}
use Rattle.table.specs.declared.Kind.TheVariants.{Number, Checksum, Text, Date, Offset, Serial, Generic, Synch, Standard, Event, Strategy}
use Rattle.table.specs.declared.Line.{Line as CodeLine}
use Rattle.metafile.specs.Bytes.{bytes}
use Rattle.metafile.specs.Lines.{Kind, count, text, date, offset, serial, strategy, Line, generic_type, time_synch_type, time_standard, event_synch, checksum, table}

-- the line of the definitions at a number
unfoldable pub line_no : ℕ → Line
line_no i = get_or table i checksum

-- n lines from the first on
unfoldable pub lines_from : ℕ → ℕ → List Line
lines_from first n = take n (drop first table)

-- the kind that a code stands for, at a width
unfoldable pub kind_of : Code → ℕ → Kind
kind_of Number w = count w (10 ^ w - 1)
kind_of Checksum w = count w 255
kind_of Text w = text w
kind_of Date w = date
kind_of Offset w = offset
kind_of Serial w = serial
kind_of Generic w = generic_type.kind
kind_of Synch w = time_synch_type.kind
kind_of Standard w = time_standard.kind
kind_of Event w = event_synch.kind
kind_of Strategy w = strategy

-- the code's table
unfoldable pub codes : List CodeLine
codes =
    record { label = bytes "Chunk_Header_Length=                  "; long = 20; width = 12; kind = Number }
    ∷ record { label = bytes "SubFormat_ID=                         "; long = 13; width = 256; kind = Text }
    ∷ record { label = bytes "Generic_Type=                         "; long = 13; width = 3; kind = Generic }
    ∷ record { label = bytes "Chunk_Time_Synch_Type=                "; long = 22; width = 3; kind = Synch }
    ∷ record { label = bytes "Chunk_Time_Standard=                  "; long = 20; width = 41; kind = Standard }
    ∷ record { label = bytes "Chunk_Time_Offset=                    "; long = 18; width = 16; kind = Offset }
    ∷ record { label = bytes "Chunk_Event_Synch=                    "; long = 18; width = 41; kind = Event }
    ∷ record { label = bytes "Chunk_Dependency_Length=              "; long = 24; width = 12; kind = Number }
    ∷ record { label = bytes "Chunk_Dependency_Count=               "; long = 23; width = 4; kind = Number }
    ∷ record { label = bytes "Dependency_Serial_Number=             "; long = 25; width = 38; kind = Serial }
    ∷ record { label = bytes "Dependency_SubFormatID=               "; long = 23; width = 256; kind = Text }
    ∷ record { label = bytes "Chunk_Content_Length=                 "; long = 21; width = 12; kind = Number }
    ∷ record { label = bytes "Multi_Chunk_Header_Length=            "; long = 26; width = 12; kind = Number }
    ∷ record { label = bytes "MiniChunk_Type_Count=                 "; long = 21; width = 4; kind = Number }
    ∷ record { label = bytes "SubType_Header_Length=                "; long = 22; width = 12; kind = Number }
    ∷ record { label = bytes "SubFormat_Short_ID=                   "; long = 19; width = 10; kind = Text }
    ∷ record { label = bytes "Chunk_Serial_Number=                  "; long = 20; width = 38; kind = Serial }
    ∷ record { label = bytes "Chunk_Recording_Date=                 "; long = 21; width = 8; kind = Date }
    ∷ record { label = bytes "Chunk_Recording_Agent=                "; long = 22; width = 32; kind = Text }
    ∷ record { label = bytes "Chunk_Writing_Date=                   "; long = 19; width = 8; kind = Date }
    ∷ record { label = bytes "Chunk_Writing_Agent=                  "; long = 20; width = 32; kind = Text }
    ∷ record { label = bytes "Chunk_Integrity_Checksum=             "; long = 25; width = 3; kind = Checksum }
    ∷ record { label = bytes "Format_ID=Ancillary Data Standard 1.00"; long = 38; width = 0; kind = Text }
    ∷ record { label = bytes "Separator_Strategy=                   "; long = 19; width = 6; kind = Strategy }
    ∷ []

unfoldable pub code_no : ℕ → CodeLine
code_no i = get_or codes i (record { label = []; long = 0; width = 0; kind = Number })
