-- `lines::words::is_word` meets its contract. Assumes nothing.
use mathlib.Core.Path.{◌∙◌}
use Rattle.lines.proofs.Judged.{same_word}
use native.Mathlib.Omega.{arith}
use Rattle.lines.proofs.words.is_word.Goals as goal

pub returns : goal.returns
returns c =
    let args = c.args in
    c.same_word.ensures ∙ same_word args.s.now args.at args.w (omega arith)
