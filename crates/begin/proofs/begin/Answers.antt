-- `begin::begin` meets its contract. Assumes nothing.
use mathlib.Core.Path.{sym}
use Rattle.std.proofs.lemmas.Result.{err_from_is_err_and}
use Rattle.metafile.specs.Answers.{count_answer}
use Rattle.metafile.specs.Begin.{begin_tests, begin}
use Rattle.begin.specs.Given.{given_of}
use Rattle.writer.proofs.Refused.{outcome-err}
use Rattle.begin.proofs.Tests.{accepted, outcome-written}
use Rattle.begin.proofs.begin.Goals as goal

pub returns-in_err-refusal : goal.returns-in_err-refusal
unfolding count_answer begin
returns-in_err-refusal c =
    let p = err_from_is_err_and c.from_residual.result c.from_residual.ensures.1 in
    rw (p.1, p.2) (outcome-err (begin_tests (given_of c.args.strategy c.args.mark.now c.args.serial c.args.recorded c.args.recorder.now c.args.written c.args.writer.now) c.args.buffer.now) c.args.buffer.now _ _ c.in_err-refusal.ensures)

pub put_header-requires : goal.put_header-requires
put_header-requires c = accepted (given_of c.args.strategy c.args.mark.now c.args.serial c.args.recorded c.args.recorder.now c.args.written c.args.writer.now) c.args.buffer.now (sym c.in_ok-refusal.ensures)

pub returns : goal.returns
returns c =
    outcome-written (given_of c.args.strategy c.args.mark.now c.args.serial c.args.recorded c.args.recorder.now c.args.written c.args.writer.now) c.args.buffer.now c.put_header.result c.put_header.new.buffer
    (sym c.in_ok-refusal.ensures) c.put_header.ensures.0 c.put_header.ensures.1
