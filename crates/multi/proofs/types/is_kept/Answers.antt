-- `multi::types::is_kept` meets its contract. Assumes nothing.
use Rattle.std.proofs.Common.{rules, tests, ◌∙◌}
use Rattle.std.proofs.lemmas.Iterator.{YieldsList-from_slice}
use Rattle.std.proofs.lemmas.Iterator.Search.{any_from_yields_List}
use Rattle.metafile.specs.Bytes.{same}
use Rattle.multi.proofs.TypeWalk.{any-member}
use Rattle.multi.proofs.types.is_kept.Goals as goal

pub returns : goal.returns
returns c =
    let a = c.args in
    any_from_yields_List (same a.id.now) _ _ _ c.any.ensures.ran (YieldsList-from_slice a.ids.now cc)
    (λ x b q k. search (rules, tests))
    ∙ any-member a.id.now a.ids.now
