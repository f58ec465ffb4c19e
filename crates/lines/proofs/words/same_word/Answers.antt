-- `lines::words::same_word` meets its contract. Assumes nothing.
use Rattle.lines.proofs.Judged.{three-same}
use Rattle.lines.proofs.words.same_word.Goals as goal

pub returns : goal.returns
returns c =
    let b = c in
    three-same b.args.a.now b.args.b.now b.requires.0 b.requires.1 c.three.result c.three-2.result c.three.ensures c.three-2.ensures
