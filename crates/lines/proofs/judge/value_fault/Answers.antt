-- `lines::judge::value_fault` meets its contract: each arm by the kind that the table gives. Assumes nothing.
use Rattle.metafile.specs.Lines.{kind_fault, generic_type, time_synch_type}
use Rattle.table.specs.declared.Kind.TheVariants.{Number, Checksum, Text, Date, Offset, Serial, Generic, Synch, Standard, Event, Strategy}
use Rattle.table.specs.Codes.{kind_of}
use Rattle.lines.specs.Words.{word_no}
use Rattle.lines.proofs.Judged.{kind-told, told-checksum}
use native.Mathlib.Omega.{arith}
use Rattle.lines.proofs.judge.value_fault.Goals as goal

pub count_fault-requires : goal.count_fault-requires
count_fault-requires c =
    omega (arith, told-checksum c.args.i (omega arith) c.line_at-line.result c.line_at-line.ensures c.in-Checksum.is)

pub returns-in-Number : goal.returns-in-Number
unfolding kind_of kind_fault
returns-in-Number c =
    rw (kind-told c.args.i (omega arith) c.line_at-line.result c.line_at-line.ensures Number c.in-Number.is) c.number_fault.ensures

pub returns-in-Checksum : goal.returns-in-Checksum
unfolding kind_of kind_fault
returns-in-Checksum c =
    rw (kind-told c.args.i (omega arith) c.line_at-line.result c.line_at-line.ensures Checksum c.in-Checksum.is) c.count_fault.ensures

pub returns-in-Text : goal.returns-in-Text
unfolding kind_of kind_fault
returns-in-Text c =
    rw (kind-told c.args.i (omega arith) c.line_at-line.result c.line_at-line.ensures Text c.in-Text.is) c.text_fault.ensures

pub returns-in-Date : goal.returns-in-Date
unfolding kind_of kind_fault
returns-in-Date c =
    rw (kind-told c.args.i (omega arith) c.line_at-line.result c.line_at-line.ensures Date c.in-Date.is) c.date_fault.ensures

pub returns-in-Offset : goal.returns-in-Offset
unfolding kind_of kind_fault
returns-in-Offset c =
    rw (kind-told c.args.i (omega arith) c.line_at-line.result c.line_at-line.ensures Offset c.in-Offset.is) c.offset_fault.ensures

pub returns-in-Serial : goal.returns-in-Serial
unfolding kind_of kind_fault
returns-in-Serial c =
    rw (kind-told c.args.i (omega arith) c.line_at-line.result c.line_at-line.ensures Serial c.in-Serial.is) c.serial_fault.ensures

pub returns-in-Generic : goal.returns-in-Generic
unfolding kind_of kind_fault generic_type word_no
returns-in-Generic c =
    rw (kind-told c.args.i (omega arith) c.line_at-line.result c.line_at-line.ensures Generic c.in-Generic.is) c.word_fault.ensures

pub returns-in-Synch : goal.returns-in-Synch
unfolding kind_of kind_fault time_synch_type word_no
returns-in-Synch c =
    rw (kind-told c.args.i (omega arith) c.line_at-line.result c.line_at-line.ensures Synch c.in-Synch.is) c.word_fault-in-Synch.ensures

pub returns-in-Standard : goal.returns-in-Standard
unfolding kind_of
returns-in-Standard c =
    rw (kind-told c.args.i (omega arith) c.line_at-line.result c.line_at-line.ensures Standard c.in-Standard.is) c.standard_fault.ensures

pub returns-in-Event : goal.returns-in-Event
unfolding kind_of
returns-in-Event c =
    rw (kind-told c.args.i (omega arith) c.line_at-line.result c.line_at-line.ensures Event c.in-Event.is) c.event_fault.ensures

pub returns-in-Strategy : goal.returns-in-Strategy
unfolding kind_of
returns-in-Strategy c =
    rw (kind-told c.args.i (omega arith) c.line_at-line.result c.line_at-line.ensures Strategy c.in-Strategy.is) c.strategy_fault.ensures
