-- `gather::gather` meets its contract. Assumes nothing.
use Prim.Native.Nat.{◌+◌, ◌≤◌}
use mathlib.Core.Bool.{false}
use mathlib.Core.Path.{◌≡◌, sym, ap, ◌∙◌}
use mathlib.Core.List.{[], ◌∷◌}
use borrow.Author.Tests.{not-true, not-false}
use Rattle.std.proofs.lemmas.Result.{err_from_is_err_and}
use native.Mathlib.Omega.{arith}
use lib.ListN.{length}
use Rattle.metafile.specs.Answers.{over_limit}
use Rattle.metafile.specs.Multi.{multi_fault}
use Rattle.laws.proofs.Lists.{length-padded}
use Rattle.walk.proofs.Index.{indexed-none}
use Rattle.walk.proofs.Named.{Named, named-goes}
use Rattle.gather.proofs.Contents.{contents-of, multi-whole}
use Rattle.gather.proofs.Answers.{refused-11, refused-row, plain-14, long-14, gather-is}
use Rattle.gather.proofs.gather.Goals as goal
use Rattle.gather.proofs.gather.Goals.{Else-over_limit, In_ok-own}

pub returns-then-over_limit : goal.returns-then-over_limit
returns-then-over_limit c = refused-11 _ _ _ _ (sym c.over_limit.ensures ∙ c.if-over_limit.true)

pub row_of-requires : goal.row_of-requires
row_of-requires c = indexed-none _ 0

within : (c : Else-over_limit) → over_limit (length c.args.file.now ∷ length c.args.id.now ∷ length c.args.buffer.now ∷ []) ≡ false
within c = sym c.over_limit.ensures ∙ c.if-over_limit.false

pub returns-in_err-own : goal.returns-in_err-own
returns-in_err-own c =
    let p = err_from_is_err_and c.from_residual.result c.from_residual.ensures.1 in
    rw (p.1, p.2) (refused-row _ _ _ _ (within (goal.at.returns-in_err-own c).Else-over_limit) _ c.in_err-own.ensures.named)

own : (c : In_ok-own) → Named c.args.file.now c.args.row c.in_ok-own.own
own c = named-goes _ _ c.in_ok-own.ensures.named c.in_ok-own.ensures.goes

pub returns-then-not-own : goal.returns-then-not-own
returns-then-not-own c =
    let at = goal.at.returns-then-not-own c in plain-14 _ _ _ _ (within at.Else-over_limit) _ (own at.In_ok-own) (not-true _ c.if-not-own.true)

pub returns-then-id-gt-ID : goal.returns-then-id-gt-ID
returns-then-id-gt-ID c =
    let at = goal.at.returns-then-id-gt-ID c in long-14 _ _ _ _ (within at.Else-over_limit) _ (own at.In_ok-own) c.if-id-gt-ID.true

inside : (c : In_ok-own) → (c.in_ok-own.own.at + c.in_ok-own.own.layout.contents) ≤ length c.args.file.now
inside c = let w = own c in omega (arith, w.lies.contents-inside, w.contents-is)

pub overflow_add-at : goal.overflow_add-at
overflow_add-at c = omega (arith, inside (goal.at.overflow_add-at c).In_ok-own, c.well_formed.0)

pub slice_bounds-gather_from-count : goal.slice_bounds-gather_from-count
slice_bounds-gather_from-count c = inside (goal.at.slice_bounds-gather_from-count c).In_ok-own

pub slice_bounds-gather_from-start : goal.slice_bounds-gather_from-start
slice_bounds-gather_from-start c = inside (goal.at.slice_bounds-gather_from-start c).In_ok-own

pub gather_from-requires : goal.gather_from-requires
gather_from-requires c =
    let w = own (goal.at.gather_from-requires c).In_ok-own in
    record {
      r_value = ap multi_fault (contents-of _ _ _ w) ∙ multi-whole _ _ _ w (not-false _ c.if-not-own.false);
      id_len = ap length c.short_id.ensures ∙ length-padded 10 _ c.if-id-gt-ID.false;
    }

pub returns : goal.returns
returns c =
    let at = goal.at.returns c in
    let w = own at.In_ok-own in
    c.gather_from.ensures
    ∙ gather-is _ _ _ _ (within at.Else-over_limit) _ w (not-false _ c.if-not-own.false) _ _ (contents-of _ _ _ w) c.short_id.ensures
