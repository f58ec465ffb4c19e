-- `relation_line::write::put_line` meets its contract. Assumes nothing.
use native.Mathlib.Omega.{arith}
use Rattle.text.proofs.Puts.{put-behind, put_is}
use Rattle.relation_line.proofs.Written.{line-is, line-long}
use Rattle.relation_line.proofs.write.put_line.Goals as goal

pub returns : goal.returns
returns c =
    let put₅ = c in
    let put₄ = put₅ in
    let put₃ = put₄ in
    let put₂ = put₃ in
    let put₁ = put₂ in
    let start = put₁ in
    let args = start.args in
    let long = line-long args.serial.now args.s.now args.j start.requires.serial_len start.requires.j_in_bounds in
    let three =
    put-behind (put-behind put₁.put_word-a.ensures.0 put₂.put_word-b.ensures.0) put₃.put_word-c.ensures.0 in
    let all =
    put_is (line-is args.serial.now args.s.now args.j)
    (put-behind (put-behind three put₄.put_word-d.ensures.0) put₅.put_word.ensures.0) in
    (omega (arith, all.end_is, long), all.bytes-are)
