-- `search::begins` meets its contract. Assumes nothing.
use Rattle.std.proofs.Common.{◌∙◌, arith}
use Rattle.metafile.specs.Bytes.{starts}
use Rattle.search.proofs.Laws.{same-pointwise, starts-short, front-not}
use Rattle.search.proofs.begins.Goals as goal

pub returns-then-s-n : goal.returns-then-s-n
returns-then-s-n c = starts-short c.args.mark.now c.args.s.now (omega arith)

pub returns-then-not-same_bytes : goal.returns-then-not-same_bytes
returns-then-not-same_bytes c =
    front-not c.args.mark.now c.args.s.now 16 (omega arith) (omega arith) c.same_bytes.result c.same_bytes.ensures c.if-not-same_bytes.true

pub returns : goal.returns
unfolding starts
returns c = c.eq.ensures ∙ same-pointwise _ _
