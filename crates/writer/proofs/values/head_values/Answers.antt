-- `writer::values::head_values` meets its contract. Assumes nothing.
use mathlib.Core.Path.{◌≡◌}
use lib.ListN.{length}
use borrow.Author.Rules.{rules}
use Rattle.writer.proofs.Joined.{head-is}
use Rattle.writer.proofs.values.head_values.Goals as goal

pub returns : goal.returns
returns c =
    let put₄ = c in
    let put₃ = put₄ in
    let put₂ = put₃ in
    let put₁ = put₂ in
    let given = put₁ in
    let start = given in
    let long : length given.given_values-given.result ≡ 360 = search rules in
    head-is start.args.d start.args.n start.args.s given.given_values-given.result
    put₁.put_number.new.buffer put₂.put_bytes.new.buffer put₃.put_number-2.new.buffer put₄.put_number-3.new.buffer
    long given.given_values-given.ensures
    put₁.put_number.ensures.1 put₂.put_bytes.ensures.1 put₃.put_number-2.ensures.1 put₄.put_number-3.ensures.1
