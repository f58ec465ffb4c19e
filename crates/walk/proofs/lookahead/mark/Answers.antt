-- `walk::lookahead::mark` meets its contract. Assumes nothing.
use mathlib.Core.Path.{ap, ◌∙◌}
use native.Mathlib.Omega.{arith}
use Rattle.filter.specs.Filter.{covering}
use Rattle.index.proofs.Laws.{sized, hash-given}
use Rattle.walk.proofs.lookahead.mark.Goals as goal

pub cover-requires : goal.cover-requires
cover-requires c = omega (arith, c.requires.words_len, sized)

pub returns : goal.returns
returns c =
    let h = c in
    let a = h.args in
    c.cover.ensures
    ∙ ap (λ x. covering x a.words.now) (hash-given a.file.now a.place h.hash.result h.hash.ensures)
