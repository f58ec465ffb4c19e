-- `chunk::header::header_bytes` meets its contract. Assumes nothing.
use mathlib.Core.Path.{◌≡◌}
use native.Mathlib.Omega.{arith}
use Rattle.metafile.specs.Chunk.{header_length}
use Rattle.chunk.proofs.Headers.{head-long, header-below, header-bytes-is}
use Rattle.chunk.proofs.header.header_bytes.Goals as goal

pub count_at-requires : goal.count_at-requires
count_at-requires c = (omega arith, omega (arith, head-long c.args.s.now c.requires.lines))

pub overflow_add-result : goal.overflow_add-result
unfolding header_length
overflow_add-result c =
    let e : c.count_at.result ≡ header_length c.args.s.now = c.count_at.ensures in
    omega (arith, header-below c.args.s.now c.requires.lines)

pub returns : goal.returns
unfolding header_length
returns c =
    let e : c.count_at.result ≡ header_length c.args.s.now = c.count_at.ensures in
    omega (arith, header-bytes-is c.args.s.now c.requires.lengths)
