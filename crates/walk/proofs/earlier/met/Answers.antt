-- `walk::earlier::met` meets its contract. Assumes nothing.
use mathlib.Core.Path.{◌≡◌, sym, ◌∙◌}
use lib.ListN.{length-set}
use native.Mathlib.Omega.{arith}
use Rattle.metafile.specs.Bytes.{part}
use Rattle.index.specs.Index.{hash_of}
use Rattle.index.proofs.Laws.{hash-given}
use Rattle.walk.specs.Index.{count_of, left_of}
use Rattle.walk.proofs.Index.{index-long, place-empty, entered-row, entered-known, entered-left}
use Rattle.walk.proofs.Ahead.{serial-given}
use Rattle.walk.proofs.earlier.met.Goals as goal
use Rattle.walk.proofs.earlier.met.Goals.{After-hash-hash}

pub bounds-index-197125 : goal.bounds-index-197125
bounds-index-197125 c = omega (arith, index-long c.requires.indexed)

pub leave-requires : goal.leave-requires
leave-requires c = record { place_value = c.requires.place_value; place_in_bounds = c.requires.place_in_bounds; index_len = c.requires.indexed.long }

pub returns-then-index-ne0 : goal.returns-then-index-ne0
returns-then-index-ne0 c = record { known = c.leave.ensures.known; entered = entered-left _ c.leave.ensures.indexed }

pub bounds-index-0 : goal.bounds-index-0
bounds-index-0 c = omega (arith, index-long c.requires.indexed)

pub overflow_cast-index : goal.overflow_cast-index
overflow_cast-index c = omega (arith, c.slice_known-3-1.given 0)

pub place-slot-requires : goal.place-slot-requires
place-slot-requires c = c.requires.indexed.long

pub bounds-index-slot : goal.bounds-index-slot
bounds-index-slot c = c.if-slot-index.true

hash-is : (c : After-hash-hash) → c.hash-hash.result ≡ hash_of (part c.args.place 38 c.args.here.source.file.now)
hash-is c = hash-given c.args.here.source.file.now c.args.place c.hash-hash.result c.hash-hash.ensures

pub bounds-index-slot-then-index-slot-eq0 : goal.bounds-index-slot-then-index-slot-eq0
bounds-index-slot-then-index-slot-eq0 c = c.if-slot-index.true

pub bounds-index-0-then-index-slot-eq0 : goal.bounds-index-0-then-index-slot-eq0
bounds-index-0-then-index-slot-eq0 c =
    simp length-set (omega (arith, index-long c.requires.indexed))

pub returns-then-index-slot-eq0 : goal.returns-then-index-slot-eq0
returns-then-index-slot-eq0 c =
    let hash = hash-is (goal.at.returns-then-index-slot-eq0 c).After-hash-hash in
    let index = c.args.index.now in
    let used : left_of index ≡ 0 = omega arith in
    let all : count_of index ≡ c.args.here.row = omega arith in
    let x = part c.args.place 38 c.args.here.source.file.now in
    let near = c.if-slot-index.true in
    record {
      known = sym (place-empty c.requires.indexed used all x c.hash-hash.result c.place-slot.result hash c.place-slot.ensures near c.if-index-slot-eq0.true);
      entered = entered-row c.requires.indexed used all x c.hash-hash.result c.place-slot.result hash c.place-slot.ensures near c.if-index-slot-eq0.true c.tag.result c.tag.ensures;
    }

pub returns-then-rescanned : goal.returns-then-rescanned
returns-then-rescanned c =
    let file = c.args.here.source.file.now in
    record {
      known = sym c.if-rescanned.true ∙ rw (c.serial_from.ensures, serial-given file c.args.place) at c.rescanned.ensures;
      entered = entered-known (part c.args.place 38 file) c.requires.indexed;
    }

pub leave-requires-2 : goal.leave-requires-2
leave-requires-2 c = record { place_value = c.requires.place_value; place_in_bounds = c.requires.place_in_bounds; index_len = c.requires.indexed.long }

pub returns : goal.returns
returns c = record { known = c.leave-2.ensures.known; entered = entered-left _ c.leave-2.ensures.indexed }
