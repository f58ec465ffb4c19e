-- `walk::headers::unbegun` meets its contract. Assumes nothing.
use mathlib.Core.Path.{sym}
use native.Mathlib.Omega.{arith}
use Rattle.metafile.specs.Bytes.{is_zero}
use Rattle.metafile.specs.Reading.{unbegun}
use Rattle.chunk_laws.proofs.File.{unbegun-some}
use Rattle.walk.proofs.headers.unbegun.Goals as goal

pub returns-then-length-eq0 : goal.returns-then-length-eq0
unfolding unbegun is_zero
returns-then-length-eq0 c = rw c.if-length-eq0.true

pub returns : goal.returns
returns c = sym (unbegun-some c.args.length c.args.fault (omega (arith, c.if-length-eq0.false)))
