-- `sums::words::sums_agree` meets its contract: both sums are that of the part. Assumes nothing.
use Rattle.std.proofs.Common.{sym, ◌∙◌, eq-eqb}
use Rattle.sums.proofs.words.sums_agree.Goals as goal

pub returns : goal.returns
returns c =
    eq-eqb c.byte_sum.result c.word_sum.result (c.byte_sum.ensures ∙ sym c.word_sum.ensures)
