-- `relations_check::check_latest` meets its contract. Assumes nothing.
use mathlib.Core.Path.{◌≡◌, refl, sym, ◌∙◌}
use mathlib.Core.List.{[]}
use lib.ListN.{length}
use Rattle.std.proofs.lemmas.Result.{err_from_is_err_and}
use Rattle.metafile.specs.Reading.{rows_of}
use Rattle.laws.proofs.Accepted.{limit-small}
use Rattle.walk.proofs.Index.{indexed-none}
use Rattle.relations_check.specs.Latest.{Holds}
use Rattle.relations_check.proofs.Choosing.{row_named, some-holds, none-held, row-holds, latest-refused, latest-checked, latest-11, latest-13}
use Rattle.relations_check.proofs.Judgings.{check-is}
use Rattle.relations_check.proofs.check_latest.Goals as goal

pub returns-then-over_limit : goal.returns-then-over_limit
returns-then-over_limit c = latest-11 _ _ (sym c.over_limit.ensures ∙ c.if-over_limit.true)

pub first-first-requires : goal.first-first-requires
first-first-requires c = indexed-none _ 0

pub choose-latest-requires-clause-file_len_bound : goal.choose-latest-requires-clause-file_len_bound
choose-latest-requires-clause-file_len_bound c = limit-small _ [] (sym c.over_limit.ensures ∙ c.if-over_limit.false)

pub returns-in_default : goal.returns-in_default
returns-in_default c =
    latest-13 _ _ (sym c.over_limit.ensures ∙ c.if-over_limit.false)
    (none-held c.args.file.now _ _ c.in_default.is c.choose-latest.ensures.0.holding)

pub returns-in_err-count : goal.returns-in_err-count
returns-in_err-count c =
    let p = err_from_is_err_and c.from_residual.result c.from_residual.ensures.1 in
    let w : Holds c.args.file.now (length (rows_of c.args.file.now)) c.in-Some.latest = some-holds _ _ _ _ c.in-Some.is c.choose-latest.ensures.0.holding in
    rw (p.1, p.2)
    (latest-refused _ _ _ _ (row-holds _ _ w) _ (c.in_err-count.ensures ∙ check-is _ _ _ _ (row_named w.at_row) _ refl w.relations _ c.contents.ensures))

pub returns : goal.returns
returns c =
    let w : Holds c.args.file.now (length (rows_of c.args.file.now)) c.in-Some.latest = some-holds _ _ _ _ c.in-Some.is c.choose-latest.ensures.0.holding in
    latest-checked _ _ _ _ (row-holds _ _ w) _ (c.in_ok-count.ensures ∙ check-is _ _ _ _ (row_named w.at_row) _ refl w.relations _ c.contents.ensures)
