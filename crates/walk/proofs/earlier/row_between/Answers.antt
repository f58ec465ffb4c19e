-- `walk::earlier::row_between` meets its contract. Assumes nothing.
use Prim.Native.Nat.{◌<◌}
use mathlib.Core.Path.{◌≡◌}
use lib.ListN.{length}
use Rattle.metafile.specs.Reading.{rows_of}
use Rattle.walk.proofs.Loops.{Turn, row_other, between-here, between_none}
use Rattle.walk.proofs.Sources.{whole, inside, unfaulted, turns}
use native.Mathlib.Omega.{arith}
use Rattle.walk.proofs.earlier.row_between.Goals as goal
use Rattle.walk.proofs.earlier.row_between.Goals.{After-known_chunk-l, In-loop-row}

in_rows : (c : In-loop-row) → c.loop-row.row < length (rows_of c.args.source.file.now)
in_rows c = omega (arith, c.loop-row-test.true, c.requires.k_in_bounds)

-- the chunk of this row
next : (c : After-known_chunk-l) → Turn c.args.source.file.now c.loop-row.row c.loop-row.at c.known_chunk-l.result
next c = turns c.args.source c.loop-row.invariant.0 (omega (arith, c.loop-row-test.true, c.requires.k_in_bounds)) c.known_chunk-l.ensures

pub loop-row-init : goal.loop-row-init
loop-row-init c = (c.requires.place_value, λ l. l)

pub known_chunk-l-requires : goal.known_chunk-l-requires
known_chunk-l-requires c =
    let h = in_rows (goal.at.known_chunk-l-requires c).In-loop-row in
    record { at_in_bounds = inside c.args.source c.loop-row.invariant.0 (omega (arith, h)); file_value = unfaulted c.args.source c.loop-row.invariant.0 h }

pub serial_at-requires : goal.serial_at-requires
serial_at-requires c =
    let w = next (goal.at.serial_at-requires c).After-known_chunk-l in
    record { at_in_bounds = omega (arith, w.inside); l_value = w.layout_is; number_value = w.whole }

pub returns-then-same_serial : goal.returns-then-same_serial
returns-then-same_serial c =
    between-here c.args.serial _ (whole c.args.source) _ _ (next (goal.at.returns-then-same_serial c).After-known_chunk-l).row c.loop-row.invariant.0 _ _ c.serial_at.ensures c.same_serial.ensures c.args.i c.args.k c.loop-row.auto.row c.loop-row-test.true c.if-same_serial.true

pub overflow_add-at : goal.overflow_add-at
overflow_add-at c = omega (arith, (next (goal.at.overflow_add-at c).After-known_chunk-l).inside)

pub loop-row-preserved : goal.loop-row-preserved
loop-row-preserved c =
    let w = next (goal.at.loop-row-preserved c).After-known_chunk-l in
    let other = row_other c.args.serial _ (whole c.args.source) _ _ w.row c.loop-row.invariant.0 _ _ c.serial_at.ensures c.same_serial.ensures c.if-same_serial.false in
    (w.place, λ y. omega (arith, c.loop-row.invariant.1 y, other))

pub returns : goal.returns
returns c =
    let all : c.loop-row.row ≡ c.args.k = omega (arith, c.loop-row-test.false, c.requires.i_le_k) in
    between_none c.args.serial _ c.args.i c.args.k (rw all at c.loop-row.invariant.1) _ (rw all at c.loop-row.invariant.0)
