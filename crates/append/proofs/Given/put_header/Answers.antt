-- `append::Given::put_header` meets its contract. Assumes nothing.
use native.Mathlib.Omega.{arith}
use borrow.Author.Rules.{rules}
use Rattle.append.specs.Given.{given_in}
use Rattle.writer.proofs.Rows.{parent_lines}
use Rattle.append.proofs.Chunks.{Going, going, head-size, head_bytes, line-size, line-bytes, file-kept, first-put}
use Rattle.append.proofs.Given.put_header.Goals as goal
use Rattle.append.proofs.Given.put_header.Goals.{Start}

accepted : (s : Start) → Going s.args.buffer.now s.args.length (given_in s.args.self.now)
accepted s = going s.args.buffer.now s.args.length (given_in s.args.self.now) s.requires.open_value

pub head_values-values-requires : goal.head_values-values-requires
head_values-values-requires c =
    let a = accepted (goal.at.head_values-values-requires c).Start in
    (a.fits.name, a.taken.parents-few, a.taken.specific-small)

pub count_value-count-requires : goal.count_value-count-requires
count_value-count-requires c = (accepted (goal.at.count_value-count-requires c).Start).taken.contents-small

pub put_lines-dependencies-requires : goal.put_lines-dependencies-requires
put_lines-dependencies-requires c =
    let room = (accepted (goal.at.put_lines-dependencies-requires c).Start).room in
    (omega arith, rw head-size (search rules), rw head_bytes (omega arith))

pub put_parents-behind-requires : goal.put_parents-behind-requires
put_parents-behind-requires c =
    let a = accepted (goal.at.put_parents-behind-requires c).Start in
    let kept = file-kept c.args.buffer.now c.args.length (given_in c.args.self.now) a _ c.put_lines-dependencies.new.buffer c.put_lines-dependencies.ensures.1 in
    let room = a.room in
    let at = rw head_bytes at c.put_lines-dependencies.ensures.0 in
    let long = c.put_lines-dependencies.auto.buffer in
    record { length_le_at = (omega arith, omega arith); located = rw kept c.requires.located }

pub put_bytes-line-requires : goal.put_bytes-line-requires
put_bytes-line-requires c =
    let room = (accepted (goal.at.put_bytes-line-requires c).Start).room in
    let at₁ = rw head_bytes at c.put_lines-dependencies.ensures.0 in
    let at₂ = c.put_parents-behind.ensures.0 in
    let long₁ = c.put_lines-dependencies.auto.buffer in
    let long₂ = c.put_parents-behind.auto.buffer in
    omega arith

pub put_lines-requires : goal.put_lines-requires
put_lines-requires c =
    let room = (accepted (goal.at.put_lines-requires c).Start).room in
    let at₁ = rw head_bytes at c.put_lines-dependencies.ensures.0 in
    let at₂ = c.put_parents-behind.ensures.0 in
    let at₃ = c.put_bytes-line.ensures.0 in
    let long₁ = c.put_lines-dependencies.auto.buffer in
    let long₂ = c.put_parents-behind.auto.buffer in
    let long₃ = c.put_bytes-line.auto.buffer in
    (omega arith, rw line-size (search rules), rw line-bytes (omega arith))

pub returns : goal.returns
unfolding parent_lines
returns c =
    first-put c.args.buffer.now c.args.length (given_in c.args.self.now) (accepted (goal.at.returns c).Start)
    c.head_values-values.result c.count_value-count.result c.put_lines-dependencies.new.buffer c.put_parents-behind.new.buffer c.put_bytes-line.new.buffer c.put_lines.new.buffer
    c.put_lines-dependencies.result c.put_parents-behind.result c.put_bytes-line.result c.put_lines.result
    c.head_values-values.ensures c.count_value-count.ensures
    c.put_lines-dependencies.ensures.0 c.put_lines-dependencies.ensures.1 c.put_parents-behind.ensures.0 c.put_parents-behind.ensures.1
    c.put_bytes-line.ensures.0 c.put_bytes-line.ensures.1 c.put_lines.ensures.0 c.put_lines.ensures.1
