-- `text::put_word` meets its contract. Assumes nothing.
use native.Mathlib.Omega.{arith}
use Rattle.text.proofs.Puts as puts
use Rattle.text.proofs.put_word.Goals as goal

pub returns : goal.returns
returns c =
    let put = c in
    let start = put in
    let args = start.args in
    (puts.put_word args.word.now args.buffer.now put.put_bytes-end.new.buffer args.at put.put_bytes-end.result args.behind start.requires put.put_bytes-end.ensures.0 put.put_bytes-end.ensures.1, omega (arith, put.put_bytes-end.ensures.0))
