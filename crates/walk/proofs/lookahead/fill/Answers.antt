-- `walk::lookahead::fill` meets its contract. Assumes nothing.
use Prim.Native.Nat.{◌<◌}
use mathlib.Core.Path.{◌≡◌}
use lib.ListN.{length}
use native.Mathlib.Omega.{arith}
use Rattle.metafile.specs.Reading.{rows_of}
use Rattle.walk.proofs.Loops.{Turn}
use Rattle.walk.proofs.Sources.{whole, at_first, inside, unfaulted, turns}
use Rattle.walk.proofs.Ahead.{marked-none, marked-set}
use Rattle.walk.proofs.lookahead.fill.Goals as goal
use Rattle.walk.proofs.lookahead.fill.Goals.{After-known_chunk-l, In-loop-row}

in_rows : (c : In-loop-row) → c.loop-row.row < length (rows_of c.args.source.file.now)
in_rows c = omega (arith, c.loop-row-test.true, c.requires.i_in_bounds)

next : (c : After-known_chunk-l) → Turn c.args.source.file.now c.loop-row.row c.loop-row.at c.known_chunk-l.result
next c = turns c.args.source c.loop-row.invariant.0 (omega (arith, c.loop-row-test.true, c.requires.i_in_bounds)) c.known_chunk-l.ensures

pub loop-row-init : goal.loop-row-init
loop-row-init c = (at_first c.args.source, marked-none _ _ c.requires.words_len)

pub known_chunk-l-requires : goal.known_chunk-l-requires
known_chunk-l-requires c =
    let h = in_rows (goal.at.known_chunk-l-requires c).In-loop-row in
    record { at_in_bounds = inside c.args.source c.loop-row.invariant.0 (omega (arith, h)); file_value = unfaulted c.args.source c.loop-row.invariant.0 h }

pub serial_place-requires : goal.serial_place-requires
serial_place-requires c =
    let w = next (goal.at.serial_place-requires c).After-known_chunk-l in
    record { at_in_bounds = omega (arith, w.inside); l_value = w.layout_is; number_value = w.whole }

pub mark-requires : goal.mark-requires
mark-requires c = record { words_len = c.loop-row.invariant.1.long; place_in_bounds = c.serial_place.ensures.inside }

pub overflow_add-at : goal.overflow_add-at
overflow_add-at c = omega (arith, (next (goal.at.overflow_add-at c).After-known_chunk-l).inside)

pub loop-row-preserved : goal.loop-row-preserved
loop-row-preserved c =
    let w = next (goal.at.loop-row-preserved c).After-known_chunk-l in
    (w.place, marked-set _ (whole c.args.source) _ _ _ w.row c.loop-row.invariant.0 w.layout_is c.loop-row.invariant.1 _ c.serial_place.ensures.place c.mark.ensures)

pub shape_of-words : goal.shape_of-words
shape_of-words c = omega (arith, c.loop-row.invariant.1.long, c.requires.words_len)

pub returns : goal.returns
returns c =
    let all : c.loop-row.row ≡ c.args.i = omega (arith, c.loop-row-test.false) in
    rw all at c.loop-row.invariant.1
