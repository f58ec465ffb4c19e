-- `fields::serials::read_serial` meets its contract. Assumes nothing.
use mathlib.Core.Bool.{◌&&◌}
use mathlib.Core.Path.{◌≡◌, sym, ap, ◌∙◌}
use native.Mathlib.Omega.{arith}
use lib.Dec.{eqb}
use lib.ListN.{get_or}
use Rattle.std.specs.Option.{is_some}
use Rattle.metafile.specs.Fields.{is_serial}
use Rattle.metafile.specs.Days.{serial_read}
use Rattle.fields.proofs.Same.{first-is}
use Rattle.fields.proofs.Days.{serial-tested, serial-day}
use Rattle.fields.proofs.serials.read_serial.Goals as goal
use Rattle.fields.proofs.serials.read_serial.Goals.{After-is_count}

tested : (c : After-is_count)
    → let r = c in
    let t = r in
    let d = t in
    let f = d in
    (eqb (get_or f.args.serial 0 0) 35
    && f.is_some.result
    && d.digits_at.result
    && d.digits_at-2.result
    && d.digits_at-3.result
    && d.digits_at-4.result
    && t.is_text.result
    && t.digits_at-5.result
    && c.is_count.result
    && eqb r.count_value.result r.from.result)
    ≡ is_serial f.args.serial
tested c =
    let r = c in
    let t = r in
    let d = t in
    let f = d in
    let k = f in
    serial-tested k.args.serial _ _ _ _ _ _ _ _ _ _ _
    (sym (first-is k.args.serial 35 (omega (arith, k))))
    (f.is_some.ensures ∙ ap is_some f.read_date-day.ensures)
    d.digits_at.ensures
    d.digits_at-2.ensures
    d.digits_at-3.ensures
    d.digits_at-4.ensures
    t.is_text.ensures
    t.digits_at-5.ensures
    c.is_count.ensures
    r.count_value.ensures
    (r.from.ensures ∙ r.byte_sum.ensures)

pub returns-then-good-is_count : goal.returns-then-good-is_count
returns-then-good-is_count c =
    let d = c in
    serial-day _ _ (sym (tested (goal.at.returns-then-good-is_count c).After-is_count) ∙ c.if-good-is_count.true) d.read_date-day.ensures

pub returns : goal.returns
unfolding serial_read
returns c = rw (sym (tested (goal.at.returns c).After-is_count) ∙ c.if-good-is_count.false)
