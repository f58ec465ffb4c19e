-- `begin::title_values` meets its contract: what was put is all of the array. Assumes nothing.
use mathlib.Core.Path.{refl}
use borrow.Author.Rules.{rules}
use Rattle.begin.proofs.Values.{title-put}
use Rattle.begin.proofs.title_values.Goals as goal

pub returns : goal.returns
returns c =
    let start = c in
    let put = c in
    title-put start.args.strategy start.args.mark put.put_bytes-at.result _ put.put_bytes-at.new.buffer c.put_number.new.buffer
    (search rules) refl
    put.put_bytes-at.ensures.0 put.put_bytes-at.ensures.1 c.put_number.ensures.1
