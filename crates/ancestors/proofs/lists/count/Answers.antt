-- `ancestors::lists::count` meets its contract. Assumes nothing.
use Rattle.std.proofs.Common.{◌≡◌, ◌∙◌, length, refl, arith, rules, tests}
use Rattle.std.proofs.lemmas.Iterator.{YieldsList-from_range}
use Rattle.std.proofs.lemmas.Iterator.Consumers.{YieldsList-from_filter, count_from_yields_List}
use Rattle.std.proofs.lemmas.List.Sums.{length-filter}
use Rattle.std.specs.List.{range_with_len}
use Rattle.ancestors.specs.Lists.{is_listed, listed_rows}
use Rattle.ancestors.proofs.Marked.{listed-count}
use Rattle.ancestors.proofs.lists.count.Goals as goal

pub returns : goal.returns
returns c =
    let m = c.args.marks.now in
    let listed : c.count.result ≡ length (listed_rows m c.args.row (length m)) =
    count_from_yields_List c.filter.result c.count.result c.count.ensures.ran
    (YieldsList-from_filter _ (is_listed m c.args.row) {f = c.filter.result.p} (YieldsList-from_range 0 (length m) (length m) (cc) (omega arith)) refl (λ x b q k. search (rules, tests)))
    ∙ length-filter (is_listed m c.args.row) (range_with_len 0 (length m)) ∙ listed-count m c.args.row (length m) in
    omega (arith, listed)
