-- `writer::values::lined_up` meets its contract. Assumes nothing.
use mathlib.Core.Path.{◌≡◌}
use lib.ListN.{length}
use borrow.Author.Rules.{rules}
use Rattle.writer.proofs.Joined.{lined-up}
use Rattle.writer.proofs.values.lined_up.Goals as goal
use Rattle.writer.proofs.values.lined_up.Goals.{Start}

lengths : (s : Start)
    → (length s.args.generic ≡ 3) × (length s.args.synch ≡ 3) × (length s.args.standard ≡ 41) × (length s.args.offset ≡ 16) × (length s.args.event ≡ 41)
lengths s = (search rules, search rules, search rules, search rules, search rules)

pub returns : goal.returns
returns c =
    let put₆ = c in
    let put₅ = put₆ in
    let put₄ = put₅ in
    let put₃ = put₄ in
    let put₂ = put₃ in
    let put₁ = put₂ in
    let start = put₁ in
    let l = lengths (goal.at.returns c).Start in
    lined-up start.args.name.now start.args.generic start.args.synch start.args.standard start.args.offset start.args.event
    put₁.put_bytes.new.buffer put₂.put_bytes-2.new.buffer put₃.put_bytes-3.new.buffer put₄.put_bytes-4.new.buffer put₅.put_bytes-5.new.buffer put₆.put_bytes-6.new.buffer
    start.requires l.0 l.1 l.2 l.3 l.4
    put₁.put_bytes.ensures.1 put₂.put_bytes-2.ensures.1 put₃.put_bytes-3.ensures.1 put₄.put_bytes-4.ensures.1 put₅.put_bytes-5.ensures.1 put₆.put_bytes-6.ensures.1
