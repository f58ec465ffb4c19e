-- `walk::lookahead::rows_ahead` meets its contract. Assumes nothing.
use native.Mathlib.Omega.{arith}
use Rattle.chunk_laws.proofs.File.{file-few}
use Rattle.walk.proofs.lookahead.rows_ahead.Goals as goal

pub returns : goal.returns
returns c =
    let w = c.rows_noted.ensures in
    (w.0, omega (arith, w.0.there, file-few c.args.from.source.file.now), omega (arith, w.0.inside), w.1)
