-- `writer::values::stamp` meets its contract. Assumes nothing.
use mathlib.Core.Path.{◌≡◌}
use lib.ListN.{length}
use borrow.Author.Rules.{rules}
use Rattle.writer.proofs.Joined.{stamp-with, stamp-without}
use Rattle.writer.proofs.values.stamp.Goals as goal
use Rattle.writer.proofs.values.stamp.Goals.{Start}

lengths : (s : Start) → (length s.args.word ≡ 3) × (length s.args.serial ≡ 38)
lengths s = (search rules, search rules)

pub returns-then-follows : goal.returns-then-follows
returns-then-follows c =
    let put₂ = c in
    let start = put₂ in
    let put₁ = put₂ in
    stamp-with start.args.word start.args.serial (lengths (goal.at.returns-then-follows c).Start).0 (lengths (goal.at.returns-then-follows c).Start).1 start.args.follows put₁.put_bytes.new.buffer put₂.put_bytes-then-follows.new.buffer
    put₂.if-follows.true put₁.put_bytes.ensures.1 put₂.put_bytes-then-follows.ensures.1

pub returns-else-follows : goal.returns-else-follows
returns-else-follows c =
    let put = c in
    let start = put in
    stamp-without start.args.word start.args.serial (lengths (goal.at.returns-else-follows c).Start).0 (lengths (goal.at.returns-else-follows c).Start).1 start.args.follows put.put_bytes.new.buffer
    c.if-follows.false put.put_bytes.ensures.1
