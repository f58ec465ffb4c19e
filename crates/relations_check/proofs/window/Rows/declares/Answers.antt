-- `relations_check::window::Rows::declares` meets its contract. Assumes nothing.
use Prim.Native.Nat.{ℕ, ◌+◌, ◌-◌, ◌*◌, ◌≤◌, ◌<◌}
use mathlib.Core.Path.{◌≡◌, refl, sym, ap, ◌∙◌}
use mathlib.Core.List.{List}
use native.Mathlib.Omega.{arith}
use lib.ListN.{length, take, drop, length-drop}
use Rattle.metafile.specs.Chunk.{dependencies}
use Rattle.metafile.specs.Reading.{rows_of}
use Rattle.metafile.specs.Append.{row_no}
use Rattle.metafile.specs.Calls.{chunk_of}
use Rattle.metafile.specs.Relations.{split_on, chunk_declares}
use Rattle.laws.proofs.Loops.{part-drop}
use Rattle.chunk_laws.proofs.Places.{RowInside, row_inside}
use Rattle.chunk_laws.proofs.Dependencies.{dependencies-are}
use Rattle.directory.specs.Directory.{start_no, Sought}
use Rattle.relation_line.specs.Form.{Five}
use Rattle.relation_line.proofs.Forms.{form-five}
use Rattle.laws.proofs.Lists.{part-long}
use Rattle.relations_check.specs.Window.{WindowOf}
use Rattle.relations_check.proofs.Declared.{none-declares, row-declares}
use Rattle.relations_check.proofs.window.Rows.declares.Goals as goal

pub slice_bounds-child-end : goal.slice_bounds-child-end
slice_bounds-child-end c = omega (arith, (form-five _ c.requires).long)

pub look_up-requires : goal.look_up-requires
look_up-requires c =
    record {
      directory = c.args.self.window_of.holds;
      in_bounds = omega (arith, part-long c.args.line.now 13 38 (omega (arith, (form-five _ c.requires).long)));
    }

pub returns-in_default : goal.returns-in_default
returns-in_default c =
    let fs = split_on 9 c.args.line.now in
    let five : Five c.args.line.now = form-five _ c.requires in
    none-declares _ _ _ _ c.args.self.window_of fs 0 (rw five.child_serial c.in_default.ensures) refl

-- the row that was found, and its chunk at a place
module _ {file d x : List ℕ} {from n : ℕ} (w : WindowOf file d from n) (j : ℕ) (s : Sought file d n x (j + 1)) where
  below : j < n
  below = omega (arith, s.few)

  in_rows : from + j < length (rows_of file)
  in_rows = omega (arith, below, w.rows)

  lies : RowInside file (row_no (rows_of file) (from + j))
  lies = row_inside _ _ in_rows

  module _ {at : ℕ} (start : at ≡ start_no d j) where
    place : at ≡ (row_no (rows_of file) (from + j)).place
    place = start ∙ w.starts j below

    inside : at + (568 + 344 * (row_no (rows_of file) (from + j)).dependencies) ≤ length file
    inside = omega (arith, place, lies.dependencies-inside)

    given : take (length file - at) (drop at file) ≡ chunk_of file (from + j)
    unfolding chunk_of
    given = part-drop file at ∙ ap (λ (p : ℕ). drop p file) place

    long : 568 + 344 * (row_no (rows_of file) (from + j)).dependencies ≤ length (take (length file - at) (drop at file))
    long = rw (part-drop file at) (omega (arith, inside, length-drop at file))

    count : (m : ℕ) → m ≡ dependencies (take (length file - at) (drop at file)) → m ≡ (row_no (rows_of file) (from + j)).dependencies
    unfolding chunk_of
    count m e = e ∙ ap dependencies given ∙ sym (dependencies-are _ _ in_rows)

pub start-at-requires : goal.start-at-requires
start-at-requires c =
    let w = c.args.self.window_of in
    record { d_len = w.holds.long; j_bound = omega (arith, below w _ c.in-Some.ensures, w.holds.few) }

pub slice_bounds-s-count : goal.slice_bounds-s-count
slice_bounds-s-count c = omega (arith, inside c.args.self.window_of _ c.in-Some.ensures c.start-at.ensures)

pub slice_bounds-s-start : goal.slice_bounds-s-start
slice_bounds-s-start c = omega (arith, inside c.args.self.window_of _ c.in-Some.ensures c.start-at.ensures)

pub dependencies-requires : goal.dependencies-requires
dependencies-requires c = omega (arith, long c.args.self.window_of _ c.in-Some.ensures c.start-at.ensures)

pub declares-requires : goal.declares-requires
declares-requires c =
    let w = c.args.self.window_of in
    record {
      n_in_bounds =
          omega (
            arith,
            long w _ c.in-Some.ensures c.start-at.ensures,
            count w _ c.in-Some.ensures c.start-at.ensures _ c.dependencies.ensures,
          );
      line_value = c.requires;
    }

pub returns : goal.returns
returns c =
    let fs = split_on 9 c.args.line.now in
    let file = c.args.self.file.now in
    let w = c.args.self.window_of in
    let five : Five c.args.line.now = form-five _ c.requires in
    let j = c.in-Some.j in
    let back : j + 1 - 1 ≡ j = omega arith in
    row-declares _ _ _ _ w fs (j + 1) (rw five.child_serial c.in-Some.ensures) (omega arith) c.declares.result
    (rw back
    (c.declares.ensures ∙ ap (λ (s : List ℕ). chunk_declares fs s c.dependencies.result) (given w _ c.in-Some.ensures c.start-at.ensures)
    ∙ ap (chunk_declares fs (chunk_of file (c.args.self.window.from + j))) (count w _ c.in-Some.ensures c.start-at.ensures _ c.dependencies.ensures)))
