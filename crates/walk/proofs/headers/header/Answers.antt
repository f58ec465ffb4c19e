-- `walk::headers::header` meets its contract. Assumes nothing.
use mathlib.Core.Path.{sym, ◌∙◌}
use Rattle.lines.proofs.Runs.{refused}
use Rattle.walk.proofs.Stages.{header-faulty}
use Rattle.walk.proofs.headers.header.Goals as goal

pub whole_header-requires : goal.whole_header-requires
whole_header-requires c = sym c.in-Ok.ensures

pub returns-in-Err : goal.returns-in-Err
returns-in-Err c = header-faulty _ _ (c.number.ensures ∙ c.in-Err.ensures) (λ q. refused _ (sym c.number.ensures ∙ q))
