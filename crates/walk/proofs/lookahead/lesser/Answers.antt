-- `walk::lookahead::lesser` meets its contract. Assumes nothing.
use mathlib.Core.Path.{◌≡◌, sym, ◌∙◌}
use native.Mathlib.Omega.{arith}
use Rattle.metafile.specs.Bytes.{part}
use Rattle.index.specs.Index.{hash_of}
use Rattle.index.proofs.Laws.{sized, hash-given}
use Rattle.walk.proofs.Ahead.{before-none}
use Rattle.walk.proofs.lookahead.lesser.Goals as goal
use Rattle.walk.proofs.lookahead.lesser.Goals.{After-hash}

hash-is : (c : After-hash) → c.hash.result ≡ hash_of (part c.args.place 38 c.args.file.now)
hash-is c = hash-given c.args.file.now c.args.place c.hash.result c.hash.ensures

pub covered-requires : goal.covered-requires
covered-requires c = omega (arith, c.requires.words_len, sized)

pub returns-else-covered : goal.returns-else-covered
returns-else-covered c =
    let h = c in
    let k = h in (
      omega arith,
      before-none k.requires.hashed k.args.place k.args.least
          (rw (← hash-is (goal.at.returns-else-covered c).After-hash) (sym c.covered.ensures ∙ c.if-covered.false)),
    )
