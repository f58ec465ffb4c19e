-- `relations_write::found::Listed::listed` meets its contract. Assumes nothing.
use mathlib.Core.Path.{refl, ◌∙◌}
use native.Mathlib.Omega.{arith}
use borrow.Author.Rules.{rules}
use borrow.Author.Tests.{tests}
use lib.ListN.{drop}
use Rattle.std.proofs.lemmas.Iterator.{YieldsList-from_range}
use Rattle.std.proofs.lemmas.Iterator.Consumers.{YieldsList-from_filter, YieldsList-at, count_from_yields_List}
use Rattle.relations_write.specs.Found.{listed_in}
use Rattle.relations_write.proofs.Lines.{count-range}
use Rattle.relations_write.proofs.found.Listed.listed.Goals as goal

pub returns : goal.returns
returns c =
    let test = listed_in c.args.self.file.now (drop c.args.at c.args.self.file.now) in
    count_from_yields_List c.filter.result c.count.result c.count.ensures.ran
    (YieldsList-from_filter _ test (YieldsList-at c.filter.ensures.source (YieldsList-from_range 0 c.args.n c.args.n refl (omega arith))) c.filter.ensures.closure (λ x r q k. search (rules, tests)))
    ∙ count-range test c.args.n
