-- `chunk::contents::whole_bytes` meets its contract. Assumes nothing.
use mathlib.Core.Path.{◌∙◌}
use native.Mathlib.Omega.{arith}
use Rattle.metafile.specs.Chunk.{content_count}
use Rattle.chunk.proofs.Stages.{bytes-or}
use Rattle.chunk.proofs.Plain.{plain-bytes-is, whole-multi, whole-line, whole_plain}
use Rattle.chunk.proofs.contents.whole_bytes.Goals as goal

pub returns-then-multichunk : goal.returns-then-multichunk
returns-then-multichunk c =
    let k = c in
    c.unwrap_or.ensures
    ∙ bytes-or c.multi_part.result
    ∙ whole-multi k.args.multichunk k.args.llc k.args.mark.now k.args.r.now k.requires _ c.if-multichunk.true c.multi_part.ensures

pub slice_bounds-data_bytes-count : goal.slice_bounds-data_bytes-count
slice_bounds-data_bytes-count c = omega (arith, whole-line _ _ _ _ c.requires c.if-multichunk.false)

pub slice_bounds-data_bytes-start : goal.slice_bounds-data_bytes-start
slice_bounds-data_bytes-start c = omega (arith, whole-line _ _ _ _ c.requires c.if-multichunk.false)

pub count_at-requires : goal.count_at-requires
count_at-requires c = omega (arith, whole-line _ _ _ _ c.requires c.if-multichunk.false)

pub returns : goal.returns
unfolding content_count
returns c =
    let k = c in
    whole_plain k.args.multichunk k.args.llc k.args.mark.now k.args.r.now k.requires _ c.if-multichunk.false
    (plain-bytes-is k.args.mark.now k.args.r.now _ _ c.count_at.ensures c.data_bytes.ensures)
