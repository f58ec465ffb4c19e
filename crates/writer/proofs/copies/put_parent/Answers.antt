-- `writer::copies::put_parent` meets its contract. Assumes nothing.
use Prim.Native.Nat.{ℕ, ◌+◌, ◌-◌}
use mathlib.Core.Path.{◌≡◌, ap, ◌∙◌}
use mathlib.Core.List.{List}
use native.Mathlib.Omega.{arith}
use lib.ListN.{drop, length-drop}
use lib.Seq.{length-take-le}
use borrow.Author.Rules.{rules}
use Rattle.metafile.specs.Bytes.{part}
use Rattle.metafile.specs.Answers.{placed}
use Rattle.writer.proofs.Rows.{parent-size, parent-bytes, parent-written}
use Rattle.writer.proofs.copies.put_parent.Goals as goal

pub put_lines-requires : goal.put_lines-requires
put_lines-requires c = (omega arith, rw parent-size (search rules), rw parent-bytes (search rules))

pub returns : goal.returns
returns c =
    let name = part c.args.name 256 c.args.buffer.now in
    let long = length-take-le 256 (drop c.args.name c.args.buffer.now) (simp length-drop (omega (arith, c.requires.1))) in
    let wide : c.args.name + 256 - c.args.name ≡ 256 = omega arith in
    let lines = parent-written c.args.serial name c.parent_values-values.result (search rules) long (rw wide at c.parent_values-values.ensures) in (
      rw parent-bytes at c.put_lines.ensures.0,
      c.put_lines.ensures.1 ∙ ap (λ (v : List ℕ). placed c.args.at v c.args.buffer.now) lines,
    )
