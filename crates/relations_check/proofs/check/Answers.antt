-- `relations_check::check` meets its contract. Assumes nothing.
use mathlib.Core.Path.{◌≡◌, ap, ◌∙◌}
use Rattle.std.proofs.lemmas.Result.{err_from_is_err_and}
use Rattle.metafile.specs.Reading.{rows_of}
use Rattle.metafile.specs.Append.{row_no}
use Rattle.metafile.specs.Calls.{chunk_of, row_contents}
use Rattle.metafile.specs.Relations.{is_relations}
use Rattle.walk.proofs.Index.{indexed-none}
use Rattle.walk.proofs.Named.{Named, named-goes, named-at}
use Rattle.relations_check.proofs.Choosing.{named-row-at}
use Rattle.relations_check.proofs.Judgings.{refused-row, refused-19, check-is}
use Rattle.relations_check.proofs.check.Goals as goal
use Rattle.relations_check.proofs.check.Goals.{In_ok-own, After-is_relations}

pub row_of-requires : goal.row_of-requires
row_of-requires c = indexed-none _ 0

pub returns-in_err-own : goal.returns-in_err-own
returns-in_err-own c =
    let p = err_from_is_err_and c.from_residual.result c.from_residual.ensures.1 in
    rw (p.1, p.2) (refused-row _ _ _ _ c.in_err-own.ensures.named)

-- the row is there
own : (c : In_ok-own) → Named c.args.file.now c.args.row c.in_ok-own.own
own c = named-goes _ _ c.in_ok-own.ensures.named c.in_ok-own.ensures.goes

is_one : (c : After-is_relations) → c.is_relations.result ≡ is_relations (chunk_of c.args.file.now c.args.row)
is_one c =
    let w : Named c.args.file.now c.args.row c.in_ok-own.own = named-goes _ _ c.in_ok-own.ensures.named c.in_ok-own.ensures.goes in
    c.is_relations.ensures ∙ ap (λ k. is_relations (chunk_of c.args.file.now k)) w.row_is

pub is_relations-requires : goal.is_relations-requires
is_relations-requires c = named-row-at (own (goal.at.is_relations-requires c).In_ok-own)

pub returns-then-not-is_relations : goal.returns-then-not-is_relations
returns-then-not-is_relations c =
    refused-19 _ _ _ _ (own (goal.at.returns-then-not-is_relations c).In_ok-own) _ (is_one (goal.at.returns-then-not-is_relations c).After-is_relations) c.if-not-is_relations.true

pub last-end-requires : goal.last-end-requires
last-end-requires c = named-at (own (goal.at.last-end-requires c).In_ok-own) c.in_ok-own.ensures.indexed

pub contents-requires : goal.contents-requires
contents-requires c = named-row-at (own (goal.at.contents-requires c).In_ok-own)

pub check_text-requires-clause-file_len_bound : goal.check_text-requires-clause-file_len_bound
check_text-requires-clause-file_len_bound c = (named-row-at (own (goal.at.check_text-requires-clause-file_len_bound c).In_ok-own)).small

pub returns : goal.returns
returns c =
    let w = own (goal.at.returns c).In_ok-own in
    c.check_text.ensures
    ∙ check-is _ _ _ _ w _ (is_one (goal.at.returns c).After-is_relations) c.if-not-is_relations.false _
    (c.contents.ensures ∙ ap (λ k. row_contents c.args.file.now (row_no (rows_of c.args.file.now) k)) w.row_is)
