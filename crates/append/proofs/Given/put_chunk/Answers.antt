-- `append::Given::put_chunk` meets its contract. Assumes nothing.
use Prim.Native.Nat.{ℕ, ◌≤◌}
use mathlib.Core.Path.{◌≡◌, sym, ◌∙◌}
use mathlib.Core.List.{List}
use native.Mathlib.Omega.{arith}
use lib.ListN.{length, take}
use lib.Seq.{length-take-le}
use borrow.Author.Rules.{rules}
use Rattle.metafile.specs.Header.{mark_of, header_fault}
use Rattle.append.specs.Given.{given_in}
use Rattle.append.proofs.Files.{parts, mark-length, mark-fits, mark-whole, mark-small}
use Rattle.append.proofs.Surveyed.{located}
use Rattle.append.proofs.Chunks.{Going, going, chunk-put}
use Rattle.append.proofs.Given.put_chunk.Goals as goal
use Rattle.append.proofs.Given.put_chunk.Goals.{After-closing_values-values, After-header-h, After-mark_of-mark, Start}

accepted : (s : Start) → Going s.args.buffer.now s.args.length (given_in s.args.self.now)
accepted s = going s.args.buffer.now s.args.length (given_in s.args.self.now) s.requires.open_value

begun : (h : After-header-h) → header_fault (take h.args.length h.args.buffer.now) ≡ 0
begun h = (going h.args.buffer.now h.args.length (given_in h.args.self.now) h.requires.open_value).begun

mark-few : (h : After-header-h) → h.header-h.result.mark ≤ 999
mark-few h =
    let e = begun h in
    omega (arith, (parts (take h.args.length h.args.buffer.now) h.header-h.result h.header-h.ensures e).mark-is, mark-small (take h.args.length h.args.buffer.now) e)

mark-is : (h : After-header-h) → h.header-h.result.mark ≡ length (mark_of (take h.args.length h.args.buffer.now))
mark-is h = mark-length (take h.args.length h.args.buffer.now) h.header-h.result h.header-h.ensures (begun h)

mark-taken : (n : ℕ) (m : List ℕ) → n ≤ 999 → length m ≡ 999 → length (take n m) ≡ n
mark-taken n m h e = length-take-le n m (omega arith)

mark-wide : (m : After-mark_of-mark) → length m.mark_of-mark.result ≡ 999
mark-wide m = search rules

values-wide : (v : After-closing_values-values) → length v.closing_values-values.result ≡ 118
values-wide v = search rules

pub slice_bounds-header-end : goal.slice_bounds-header-end
slice_bounds-header-end c = (accepted (goal.at.slice_bounds-header-end c).Start).lent.file-inside

pub slice_bounds-header-end-2 : goal.slice_bounds-header-end-2
slice_bounds-header-end-2 c = sym (accepted (goal.at.slice_bounds-header-end-2 c).Start).old-long

pub slice_bounds-mark_of-end : goal.slice_bounds-mark_of-end
slice_bounds-mark_of-end c = (accepted (goal.at.slice_bounds-mark_of-end c).Start).lent.file-inside

pub slice_bounds-mark_of-end-2 : goal.slice_bounds-mark_of-end-2
slice_bounds-mark_of-end-2 c = sym (accepted (goal.at.slice_bounds-mark_of-end-2 c).Start).old-long

pub mark_of-mark-requires : goal.mark_of-mark-requires
mark_of-mark-requires c =
    let at = (goal.at.mark_of-mark-requires c).After-header-h in
    (mark-few at, mark-fits (take c.args.length c.args.buffer.now) c.header-h.result c.header-h.ensures (begun at))

pub closing_values-values-requires : goal.closing_values-values-requires
closing_values-values-requires c =
    let fits = (accepted (goal.at.closing_values-values-requires c).Start).fits in
    (fits.recorder, fits.writer)

pub put_header-first-requires : goal.put_header-first-requires
put_header-first-requires c =
    let at = goal.at.put_header-first-requires c in
    let a = (accepted at.Start).taken in
    record {
      open_value = c.requires.open_value;
      located = located (take c.args.length c.args.buffer.now) c.args.self.now.description.serial c.args.self.now.parents.now c.args.survey c.requires.survey_value _ (mark-is at.After-header-h) a.parents-few a.parents-below;
    }

pub put_bytes-second-requires : goal.put_bytes-second-requires
put_bytes-second-requires c =
    let a = accepted (goal.at.put_bytes-second-requires c).Start in
    let room = a.room in
    let at = c.put_header-first.ensures.0 ∙ a.first-end in
    let long = c.put_header-first.auto.buffer in
    omega arith

pub slice_bounds-mark-end : goal.slice_bounds-mark-end
slice_bounds-mark-end c =
    let at = goal.at.slice_bounds-mark-end c in omega (arith, mark-few at.After-header-h, mark-wide at.After-mark_of-mark)

pub slice_bounds-put_closing-end : goal.slice_bounds-put_closing-end
slice_bounds-put_closing-end c =
    let at = goal.at.slice_bounds-put_closing-end c in
    sym (mark-taken c.header-h.result.mark c.mark_of-mark.result (mark-few at.After-header-h) (mark-wide at.After-mark_of-mark))

pub put_closing-third-requires : goal.put_closing-third-requires
put_closing-third-requires c =
    let at = goal.at.put_closing-third-requires c in
    let a = accepted at.Start in
    let room = a.room in
    let at₁ = c.put_header-first.ensures.0 ∙ a.first-end in
    let at₂ = c.put_bytes-second.ensures.0 in
    let long₁ = c.put_header-first.auto.buffer in
    let long₂ = c.put_bytes-second.auto.buffer in
    let same-mark = mark-is at.After-header-h in
    let whole-mark = mark-taken c.header-h.result.mark c.mark_of-mark.result (mark-few at.After-header-h) (mark-wide at.After-mark_of-mark) in
    (omega arith, omega arith, values-wide at.After-closing_values-values)

pub returns : goal.returns
returns c =
    let at = goal.at.returns c in
    chunk-put c.args.buffer.now c.args.length (given_in c.args.self.now) (accepted at.Start) _ c.closing_values-values.result
    c.put_header-first.new.buffer c.put_bytes-second.new.buffer c.put_closing-third.new.buffer c.put_header-first.result c.put_bytes-second.result c.put_closing-third.result
    (c.mark_of-mark.ensures ∙ mark-whole (take c.args.length c.args.buffer.now) c.header-h.result c.header-h.ensures (begun at.After-header-h)) c.closing_values-values.ensures
    c.put_header-first.ensures.0 c.put_header-first.ensures.1 c.put_bytes-second.ensures.0 c.put_bytes-second.ensures.1
    c.put_closing-third.ensures.0 c.put_closing-third.ensures.1
