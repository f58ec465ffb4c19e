-- `blocks::judge::unpack_fault` meets its contract. Assumes nothing.
use Rattle.std.proofs.Common.{ap, ◌∙◌, arith}
use Rattle.metafile.specs.Below.{fault_below}
use Rattle.blocks.specs.Blocks.{fault_of}
use Rattle.blocks.proofs.Places.{empty-fault, some-fault, blocks-counted}
use Rattle.blocks.proofs.judge.unpack_fault.Goals as goal

pub returns-then-x-eq0 : goal.returns-then-x-eq0
returns-then-x-eq0 c = empty-fault _ c.if-x-eq0.true

pub blocks_fault-requires : goal.blocks_fault-requires
blocks_fault-requires c = record { x_len_bound = c.requires; count_value = c.div_ceil.ensures ∙ blocks-counted c.args.x.now }

pub returns : goal.returns
returns c = some-fault _ _ c.if-x-eq0.false (grind (arith, ap (λ n. fault_below n (fault_of c.args.x.now)) (c.div_ceil.ensures ∙ blocks-counted c.args.x.now)))
