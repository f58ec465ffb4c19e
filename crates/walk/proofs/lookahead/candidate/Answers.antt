-- `walk::lookahead::candidate` meets its contract. Assumes nothing.
use Prim.Native.Nat.{◌<◌}
use mathlib.Core.Path.{◌≡◌, sym, ◌∙◌}
use lib.ListN.{length}
use native.Mathlib.Omega.{arith}
use Rattle.metafile.specs.Bytes.{part}
use Rattle.index.specs.Index.{hash_of}
use Rattle.index.proofs.Laws.{sized, hash-given}
use Rattle.walk.proofs.Ahead.{candidate-noted, candidate-set}
use Rattle.walk.proofs.lookahead.candidate.Goals as goal
use Rattle.walk.proofs.lookahead.candidate.Goals.{After-hash-hash, Start}

hash-is : (c : After-hash-hash) → c.hash-hash.result ≡ hash_of (part c.args.place 38 c.args.ahead.from.source.file.now)
hash-is c = hash-given c.args.ahead.from.source.file.now c.args.place c.hash-hash.result c.hash-hash.ensures

pub covered-requires : goal.covered-requires
covered-requires c = omega (arith, c.requires.words_len, sized)

few : (k : Start) → k.args.m < length k.args.places.now
few k = omega arith

pub returns-then-covered : goal.returns-then-covered
returns-then-covered c =
    let h = c in
    let k = h in
    candidate-noted k.args.ahead.from.source.file.now k.args.words.now k.args.places.now k.requires.words_len k.args.place k.args.m (few (goal.at.returns-then-covered c).Start) h.hash-hash.result (hash-is (goal.at.returns-then-covered c).After-hash-hash)
    (sym c.covered.ensures ∙ c.if-covered.true)

pub cover-requires : goal.cover-requires
cover-requires c = omega (arith, c.requires.words_len, sized)

pub returns : goal.returns
returns c =
    let e = c in
    let h = e in
    let k = h in
    rw c.cover.ensures
    (candidate-set k.args.ahead.from.source.file.now k.args.words.now k.args.places.now k.requires.words_len k.args.place k.args.m (few (goal.at.returns c).Start) h.hash-hash.result (hash-is (goal.at.returns c).After-hash-hash)
    (sym e.covered.ensures ∙ e.if-covered.false))
