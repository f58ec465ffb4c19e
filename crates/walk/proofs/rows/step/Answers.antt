-- `walk::rows::step` meets its contract. Assumes nothing.
use Prim.Native.Nat.{◌<◌}
use mathlib.Core.Path.{◌≡◌, sym, ◌∙◌}
use lib.ListN.{length, drop}
use Rattle.metafile.specs.Bytes.{part}
use Rattle.metafile.specs.Header.{mark_of}
use Rattle.metafile.specs.Chunk.{serial_of}
use Rattle.metafile.specs.Reading.{rows_of}
use Rattle.walk.proofs.Loops.{Turn, step_end, step_row, step-fault, step-seen, step-turn, step-new, row_has}
use Rattle.walk.proofs.Index.{index-long, indexed-more}
use Rattle.walk.proofs.Sources.{whole, inside, unfaulted}
use Rattle.walk.proofs.Ahead.{Stands, stands}
use native.Mathlib.Omega.{arith}
use Rattle.walk.proofs.rows.step.Goals as goal
use Rattle.walk.proofs.rows.step.Goals.{After-serial_place, Then-here-index}

pub returns-then-at-source : goal.returns-then-at-source
returns-then-at-source c =
    let p = c.args.here in
    record {
      step = step_end _ (whole p.source) p.row p.at p.few p.at_is c.if-at-source.true;
      indexed = indexed-more c.requires.indexed (omega arith);
    }

pub bounds-index-0 : goal.bounds-index-0
bounds-index-0 c = omega (arith, index-long c.requires.indexed)

-- the row is there
there : (c : Then-here-index) → c.args.here.row < length (rows_of c.args.here.source.file.now)
there c = omega (arith, c.if-here-index.true, c.requires.indexed.there)

pub known_chunk-requires : goal.known_chunk-requires
known_chunk-requires c =
    let p = c.args.here in
    record { at_in_bounds = inside p.source p.at_is p.few; file_value = unfaulted p.source p.at_is (there (goal.at.known_chunk-requires c).Then-here-index) }

pub returns-then-here-index : goal.returns-then-here-index
returns-then-here-index c =
    let p = c.args.here in
    record {
      step = step_row _ (whole p.source) p.row p.at (there (goal.at.returns-then-here-index c).Then-here-index) p.at_is _ c.known_chunk.ensures;
      indexed = indexed-more c.requires.indexed (omega arith);
    }

pub chunk_at-l-requires : goal.chunk_at-l-requires
chunk_at-l-requires c = inside c.args.here.source c.args.here.at_is c.args.here.few

pub returns-then-l-ne0 : goal.returns-then-l-ne0
returns-then-l-ne0 c =
    let p = c.args.here in
    record {
      step = step-fault _ (whole p.source) p.row p.at p.few p.at_is c.if-at-source.false _ c.chunk_at-l.ensures c.if-l-ne0.true;
      indexed = indexed-more c.requires.indexed (omega arith);
    }

pub serial_place-requires : goal.serial_place-requires
serial_place-requires c =
    let p = c.args.here in
    record { at_in_bounds = inside p.source p.at_is p.few; l_value = c.chunk_at-l.ensures; number_value = c.if-l-ne0.false }

pub met-requires : goal.met-requires
met-requires c =
    record { place_value = c.serial_place.ensures.place; place_in_bounds = c.serial_place.ensures.inside; indexed = c.requires.indexed }

-- the serial number of the chunk, which is whole, stands where it is looked up
serial : (c : After-serial_place)
    → let p = c.args.here in
    part c.serial_place.result 38 p.source.file.now ≡ serial_of (mark_of p.source.file.now) (drop p.at p.source.file.now)
serial c =
    let p = c.args.here in
    let here : Stands p.source.file.now p.at c.chunk_at-l.result = stands _ _ _ (inside p.source p.at_is p.few) c.chunk_at-l.ensures c.if-l-ne0.false in
    rw c.serial_place.ensures.place (sym here.serial-is)

pub returns-then-met : goal.returns-then-met
returns-then-met c =
    let p = c.args.here in
    let is = c.met.ensures in
    record {
      step =
          step-seen _ (whole p.source) p.row p.at p.few p.at_is c.if-at-source.false _ c.chunk_at-l.ensures c.if-l-ne0.false _ _ (serial (goal.at.returns-then-met c).After-serial_place) is.known c.if-met.true;
      indexed = is.entered.as-known (sym is.known ∙ c.if-met.true);
    }

pub returns : goal.returns
returns c =
    let p = c.args.here in
    let is = c.met.ensures in
    let has = serial (goal.at.returns c).After-serial_place in
    let next : Turn p.source.file.now p.row p.at c.chunk_at-l.result =
    step-turn _ (whole p.source) p.row p.at p.few p.at_is c.if-at-source.false _ c.chunk_at-l.ensures c.if-l-ne0.false _ _ has is.known c.if-met.false in
    record {
      step = step-new _ (whole p.source) p.row p.at p.few p.at_is c.if-at-source.false _ c.chunk_at-l.ensures c.if-l-ne0.false _ _ has is.known c.if-met.false;
      indexed = is.entered.as_row next.row (row_has _ (whole p.source) _ _ next.row p.at_is _ has);
    }
