-- `append::append` meets its contract. Assumes nothing.
use mathlib.Core.Path.{sym, ◌∙◌}
use native.Mathlib.Omega.{arith}
use lib.Seq.{length-take-le}
use Rattle.std.proofs.lemmas.Result.{err_from_is_err_and}
use Rattle.metafile.specs.Answers.{append_answer}
use Rattle.metafile.specs.Append.{append_tests, append}
use Rattle.laws.proofs.Outcomes.{outcome-refused}
use Rattle.append.specs.Given.{given_of}
use Rattle.writer.proofs.Refused.{outcome-err}
use Rattle.append.proofs.Refusals.{inside, refused-11}
use Rattle.append.proofs.Chunks.{outcome-written}
use Rattle.append.proofs.append.Goals as goal

pub returns-then-over_limit : goal.returns-then-over_limit
unfolding append_answer append
returns-then-over_limit c =
    outcome-refused (append_tests c.args.buffer.now c.args.length (given_of c.args.description c.args.parents.now c.args.specific.now c.args.contents.now c.args.«open»)) c.args.buffer.now _ 11 (refused-11 c.args.buffer.now c.args.length (given_of c.args.description c.args.parents.now c.args.specific.now c.args.contents.now c.args.«open») (sym c.over_limit.ensures ∙ c.if-over_limit.true)) (λ z. omega arith)

pub slice_bounds-survey-end : goal.slice_bounds-survey-end
slice_bounds-survey-end c = inside c.args.buffer.now c.args.length (given_of c.args.description c.args.parents.now c.args.specific.now c.args.contents.now c.args.«open») (sym c.over_limit.ensures ∙ c.if-over_limit.false)

pub slice_bounds-survey-end-2 : goal.slice_bounds-survey-end-2
slice_bounds-survey-end-2 c =
    sym (length-take-le c.args.length c.args.buffer.now (inside c.args.buffer.now c.args.length (given_of c.args.description c.args.parents.now c.args.specific.now c.args.contents.now c.args.«open») (sym c.over_limit.ensures ∙ c.if-over_limit.false)))

pub returns-in_err-refusal : goal.returns-in_err-refusal
unfolding append_answer append
returns-in_err-refusal c =
    let p = err_from_is_err_and c.from_residual.result c.from_residual.ensures.1 in
    rw (p.1, p.2) (outcome-err (append_tests c.args.buffer.now c.args.length (given_of c.args.description c.args.parents.now c.args.specific.now c.args.contents.now c.args.«open»)) c.args.buffer.now _ _ c.in_err-refusal.ensures)

pub returns : goal.returns
returns c = outcome-written c.args.buffer.now c.args.length (given_of c.args.description c.args.parents.now c.args.specific.now c.args.contents.now c.args.«open») c.put_chunk.result c.put_chunk.new.buffer c.in_ok-refusal.ensures c.put_chunk.ensures.0 c.put_chunk.ensures.1
