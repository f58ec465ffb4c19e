-- `begin::Given::put_header` meets its contract. Assumes nothing.
use native.Mathlib.Omega.{arith}
use borrow.Author.Rules.{rules}
use Rattle.begin.specs.Given.{given_in}
use Rattle.begin.proofs.Formed.{Widths, title-size, title-values-size, recorder-fits, writer-fits, header-length, header_is}
use Rattle.begin.proofs.Given.put_header.Goals as goal
use Rattle.begin.proofs.Given.put_header.Goals.{Start}

widths : (s : Start) → Widths (given_in s.args.self.now)
widths s = record { strategy = search rules; serial = search rules; recorded = search rules; written = search rules }

pub integrity_values-values-requires : goal.integrity_values-values-requires
integrity_values-values-requires c =
    (recorder-fits (given_in c.args.self.now) c.requires.0, writer-fits (given_in c.args.self.now) c.requires.0)

pub put_lines-at-requires : goal.put_lines-at-requires
put_lines-at-requires c =
    let long = header-length (given_in c.args.self.now) c.requires.0 in
    (omega arith, rw title-values-size (search rules), omega (arith, title-size, c.requires.1))

pub put_closing-requires : goal.put_closing-requires
put_closing-requires c =
    let at = c.put_lines-at.ensures.0 in
    let long = header-length (given_in c.args.self.now) c.requires.0 in
    (omega (arith, title-size), omega (arith, title-size, c.put_lines-at.auto.buffer, c.requires.1), search rules)

pub returns : goal.returns
returns c =
    let long = header-length (given_in c.args.self.now) c.requires.0 in (
      omega (arith, c.put_closing.ensures.0, c.put_lines-at.ensures.0, title-size),
      header_is (given_in c.args.self.now) (widths (goal.at.returns c).Start) c.requires.0 c.title_values-title.result c.integrity_values-values.result
          c.args.buffer.now c.put_lines-at.new.buffer c.put_closing.new.buffer c.put_lines-at.result
          c.title_values-title.ensures c.integrity_values-values.ensures
          c.put_lines-at.ensures.0 c.put_lines-at.ensures.1 c.put_closing.ensures.1,
    )
