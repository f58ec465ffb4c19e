-- `lines::words::begins_mini` meets its contract: the first 10 bytes are compared with the label. Assumes nothing.
use native.Mathlib.Omega.{arith}
use lib.ListN.{take, length-take}
use Rattle.metafile.specs.Bytes.{starts}
use Rattle.metafile.specs.Multi.{mini_label}
use Rattle.search.proofs.Laws.{same-lengths}
use Rattle.lines.proofs.words.begins_mini.Goals as goal

pub returns-then-s-lt-MINI_ID : goal.returns-then-s-lt-MINI_ID
unfolding starts mini_label
returns-then-s-lt-MINI_ID c =
    let s = c.args.s.now in
    same-lengths (take 10 s) _ (λ e. absurd (omega (arith, length-take 10 s, e)))

pub slice_bounds-same_bytes-end : goal.slice_bounds-same_bytes-end
slice_bounds-same_bytes-end c = simp length-take (omega arith)

pub returns : goal.returns
unfolding starts mini_label
returns c = c.same_bytes.ensures
