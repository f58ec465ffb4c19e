-- `blocks::pack` meets its contract. Assumes nothing.
use Rattle.std.proofs.Common.{◌≡◌, ◌*◌, false, [], ◌∷◌, length, sym, ◌∙◌, arith}
use Rattle.metafile.specs.Answers.{over_limit}
use Rattle.laws.proofs.Accepted.{limit-small}
use Rattle.blocks.specs.Blocks.{packed}
use Rattle.blocks.proofs.Shape.{packed-long}
use Rattle.blocks.proofs.Answers.{pack-11, pack-18, pack-done}
use Rattle.blocks.proofs.pack.Goals as goal
use Rattle.blocks.proofs.pack.Goals.{After-block_count-count, Else-over_limit}

pub returns-then-over_limit : goal.returns-then-over_limit
returns-then-over_limit c = pack-11 _ _ (sym c.over_limit.ensures ∙ c.if-over_limit.true)

-- 11 is passed
within : (c : Else-over_limit) → over_limit (length c.args.file.now ∷ length c.args.buffer.now ∷ []) ≡ false
within c = sym c.over_limit.ensures ∙ c.if-over_limit.false

pub block_count-count-requires : goal.block_count-count-requires
block_count-count-requires c = limit-small _ _ (within c)

long : (c : After-block_count-count) → c.block_count-count.result * 512 ≡ length (packed c.args.file.now)
long c = omega (arith, c.block_count-count.ensures.0, packed-long c.args.file.now)

pub returns-then-buffer-packed : goal.returns-then-buffer-packed
returns-then-buffer-packed c =
    let b = c in
    pack-18 _ _ (within (goal.at.returns-then-buffer-packed c).Else-over_limit) (omega (arith, long (goal.at.returns-then-buffer-packed c).After-block_count-count, c.if-buffer-packed.true))

pub put_blocks-requires : goal.put_blocks-requires
put_blocks-requires c =
    let e = c in
    let b = e in record { file_len_bound = limit-small _ _ (within (goal.at.put_blocks-requires c).Else-over_limit); count_value = b.block_count-count.ensures.0; count_in_bounds = e.if-buffer-packed.false }

pub returns : goal.returns
returns c =
    let p = c in
    let e = p in
    let b = e in
    pack-done _ _ (within (goal.at.returns c).Else-over_limit) (long (goal.at.returns c).After-block_count-count) e.if-buffer-packed.false p.put_blocks.ensures
