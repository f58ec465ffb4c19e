-- `walk::lookahead::compare` meets its contract. Assumes nothing.
use Prim.Native.Nat.{◌<◌}
use mathlib.Core.Path.{◌≡◌}
use lib.ListN.{length}
use native.Mathlib.Omega.{arith}
use Rattle.metafile.specs.Reading.{rows_of}
use Rattle.walk.proofs.Loops.{Turn}
use Rattle.walk.proofs.Sources.{begun, whole, inside, turns}
use Rattle.walk.proofs.Ahead.{comparing-first, compared_whole, compared-row, compared-more, known-number}
use Rattle.walk.proofs.lookahead.compare.Goals as goal
use Rattle.walk.proofs.lookahead.compare.Goals.{Else-least-place}

pub loop-k-init : goal.loop-k-init
loop-k-init c = comparing-first _ (whole c.args.ahead.from.source) c.args.n _ 4294967295 (begun c.args.ahead.from.source).end_is

pub known_chunk-l-requires : goal.known_chunk-l-requires
known_chunk-l-requires c =
    let inv = c.loop-k.invariant in
    record { at_in_bounds = inside c.args.ahead.from.source inv.place inv.ahead.there; file_value = compared_whole (whole c.args.ahead.from.source) c.requires.looked inv c.loop-k-test.true }

pub serial_place-place-requires : goal.serial_place-place-requires
serial_place-place-requires c =
    let inv = c.loop-k.invariant in
    record { at_in_bounds = inside c.args.ahead.from.source inv.place inv.ahead.there; l_value = c.known_chunk-l.ensures; number_value = known-number _ _ _ c.known_chunk-l.ensures (compared_whole (whole c.args.ahead.from.source) c.requires.looked inv c.loop-k-test.true) }

pub returns-then-least-place : goal.returns-then-least-place
returns-then-least-place c = c.loop-k.invariant.ahead

pub lesser-least-requires : goal.lesser-least-requires
lesser-least-requires c =
    record { words_len = c.requires.words_len; place_in_bounds = c.serial_place-place.ensures.inside; file_len_bound = c.args.ahead.small; hashed = c.requires.hashed; noted_value = c.requires.noted_value }

-- the chunk is a row
row : (c : Else-least-place) → c.loop-k.k < length (rows_of c.args.ahead.from.source.file.now)
row c = compared-row (whole c.args.ahead.from.source) c.requires.looked c.loop-k.invariant c.loop-k-test.true (omega (arith, c.serial_place-place.ensures.place, c.if-least-place.false))

next : (c : Else-least-place) → Turn c.args.ahead.from.source.file.now c.loop-k.k c.loop-k.at c.known_chunk-l.result
next c = turns c.args.ahead.from.source c.loop-k.invariant.place (row c) c.known_chunk-l.ensures

pub overflow_add-at : goal.overflow_add-at
overflow_add-at c = omega (arith, (next (goal.at.overflow_add-at c).Else-least-place).inside)

pub loop-k-preserved : goal.loop-k-preserved
loop-k-preserved c =
    let least = c.lesser-least.ensures in
    compared-more (whole c.args.ahead.from.source) c.requires.looked c.loop-k.invariant c.loop-k-test.true _ c.known_chunk-l.ensures (row (goal.at.loop-k-preserved c).Else-least-place) _ least.0
    (rw c.serial_place-place.ensures.place at least.1)

pub returns : goal.returns
returns c =
    let all : c.loop-k.k ≡ c.args.n = omega (arith, c.loop-k-test.false) in
    rw all at c.loop-k.invariant.ahead
