-- `writer::values::integrity_values` meets its contract: each value is put into spaces, at the width of those before it.
-- Assumes nothing.
use mathlib.Core.Path.{◌≡◌}
use borrow.Author.Rules.{rules}
use lib.ListN.{length}
use Rattle.writer.proofs.Joined.{integrity-put}
use Rattle.writer.proofs.values.integrity_values.Goals as goal
use Rattle.writer.proofs.values.integrity_values.Goals.{Start}

lengths : (s : Start) → (length s.args.serial ≡ 38) × (length s.args.recorded ≡ 8) × (length s.args.written ≡ 8)
lengths s = (search rules, search rules, search rules)

pub returns : goal.returns
returns c =
    let put₅ = c in
    let put₄ = put₅ in
    let put₃ = put₄ in
    let put₂ = put₃ in
    let put₁ = put₂ in
    let start = put₁ in
    integrity-put start.args.serial start.args.recorded start.args.recorder.now start.args.written start.args.writer.now
    put₁.put_bytes.new.buffer put₂.put_bytes-2.new.buffer put₃.put_bytes-3.new.buffer put₄.put_bytes-4.new.buffer put₅.put_bytes-5.new.buffer
    (lengths (goal.at.returns c).Start).0 (lengths (goal.at.returns c).Start).1 start.requires.0 (lengths (goal.at.returns c).Start).2 start.requires.1
    put₁.put_bytes.ensures.1 put₂.put_bytes-2.ensures.1 put₃.put_bytes-3.ensures.1 put₄.put_bytes-4.ensures.1 put₅.put_bytes-5.ensures.1
