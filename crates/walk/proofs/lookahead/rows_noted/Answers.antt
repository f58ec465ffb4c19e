-- `walk::lookahead::rows_noted` meets its contract. Assumes nothing.
use mathlib.Core.Path.{sym, ◌∙◌}
use Rattle.walk.proofs.Ahead.{looked-kept}
use Rattle.walk.proofs.lookahead.rows_noted.Goals as goal

pub compare-requires : goal.compare-requires
compare-requires c =
    record {
      words_len = c.arrange.ensures.2;
      looked = looked-kept c.candidates-chunks.ensures.0 c.arrange.ensures.0;
      hashed = c.arrange.ensures.1;
      noted_value = sym c.rising.ensures ∙ c.if-rising.true;
    }
