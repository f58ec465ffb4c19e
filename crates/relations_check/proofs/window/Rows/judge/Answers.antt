-- `relations_check::window::Rows::judge` meets its contract. Assumes nothing.
use Prim.Native.Nat.{ℕ, ◌+◌, ◌≤◌, ◌<◌}
use mathlib.Core.Bool.{Bool}
use mathlib.Core.List.{List}
use mathlib.Core.Logic.{inl}
use mathlib.Core.Path.{◌≡◌, sym, ap, ◌∙◌}
use native.Mathlib.Omega.{arith}
use borrow.Author.Rules.{rules}
use borrow.Author.Tests.{tests}
use lib.ListN.{length, get_or, length-append}
use Rattle.std.proofs.Common.{of_calls}
use Rattle.std.specs.List.{filter}
use Rattle.std.proofs.lemmas.List.{length_push}
use Rattle.std.proofs.lemmas.List.FromFn.{length-enumerate_from}
use Rattle.std.proofs.lemmas.Iterator.Consumers.{YieldsList-from_first, YieldsList-from_filter, YieldsList-from_enumerate, YieldsList-at, YieldsList-turn, YieldsList-end}
use Rattle.metafile.specs.Relations.{split_on, verdicts_by}
use Rattle.relation_line.specs.Form.{has_name}
use Rattle.relations_check.specs.Judged.{declared_below}
use Rattle.relations_check.specs.TextLines.{lines_left}
use Rattle.relations_check.proofs.Lines.{lines-few, verdicts-long, numbered, named-of, named-at, named-long, written-none, written-long, written-kept, written-next, written-end, front-of}
use Rattle.relations_check.proofs.window.Rows.judge.Goals as goal
use Rattle.relations_check.proofs.window.Rows.judge.Goals.{Start, In-Some}

-- the verdicts by the rows before the window, and by those of the window too
abbrev old : Start → List (List ℕ) → Bool
old c = declared_below c.args.self.file.now c.args.self.window.from

abbrev new : Start → List (List ℕ) → Bool
new c = declared_below c.args.self.file.now (c.args.self.window.from + c.args.self.window.entries)

-- there is room for them
room : (c : Start) → length (verdicts_by (new c) (split_on 10 c.args.text.now)) ≤ length c.args.verdicts.now
room c =
    let lines = split_on 10 c.args.text.now in
    let before = ap length c.requires.is ∙ length-append (verdicts_by (old c) lines) _ in
    omega (arith, before, verdicts-long (old c) lines, verdicts-long (new c) lines)

pub loop-i-init : goal.loop-i-init
loop-i-init c =
    let left : lines_left c.into_iter-i-iterator.result.iter.iter ≡ split_on 10 c.args.text.now = cc in
    let begins : c.into_iter-i-iterator.result.count ≡ 0 = cc in
    record {
      can = ((tt, tt, search of_calls), tt, inl (omega (arith, ap length left, lines-few 10 c.args.text.now, c.well_formed)));
      ends = tt;
      written = written-none _ _;
    }

-- the line that comes next
turn : (c : In-Some) → (length c.loop-i.yielded < length (filter has_name (split_on 10 c.args.text.now))) × (c.in-Some.i ≡ length c.loop-i.yielded)
    × (c.in-Some.line.now ≡ get_or (filter has_name (split_on 10 c.args.text.now)) (length c.loop-i.yielded) c.in-Some.line.now)
turn c =
    let lines = split_on 10 c.args.text.now in
    let named = YieldsList-from_filter _ has_name (YieldsList-from_first (λ x. x.now) lines_left lines (ap lines_left c.filter-named.ensures.source ∙ c.of.ensures)) c.filter-named.ensures.closure (λ x r q k. search (rules, tests)) in
    let all = YieldsList-at c.into_iter-i-iterator.ensures.into_iter_gives (YieldsList-from_enumerate (YieldsList-at c.enumerate-i-items.ensures.source named) c.enumerate-i-items.ensures.count) in
    numbered (filter has_name lines) _ _ _ (YieldsList-turn all c.loop-i.yielded _ c.loop-i.yielded_by _ _ (c.in-Some.i, c.in-Some.line) c.in-Some.is c.next.ensures.steps)

inside : (c : In-Some) → length (verdicts_by (declared_below c.args.self.file.now (c.args.self.window.from + c.args.self.window.entries)) (split_on 10 c.args.text.now)) ≤ length c.args.verdicts.now
    → c.in-Some.i < length c.loop-i.verdicts
inside c fits =
    let t = turn c in
    let long = named-long (declared_below c.args.self.file.now (c.args.self.window.from + c.args.self.window.entries)) (split_on 10 c.args.text.now) in
    omega (arith, t.0, t.1, written-long c.loop-i.invariant.written (omega arith) fits)

pub offset_bounds-verdicts-i : goal.offset_bounds-verdicts-i
offset_bounds-verdicts-i c = omega (arith, inside (goal.at.offset_bounds-verdicts-i c).In-Some (room (goal.at.offset_bounds-verdicts-i c).Start), c.well_formed)

pub bounds-verdicts-i : goal.bounds-verdicts-i
bounds-verdicts-i c = inside (goal.at.bounds-verdicts-i c).In-Some (room (goal.at.bounds-verdicts-i c).Start)

pub offset_bounds-verdicts-i-in-loop-i : goal.offset_bounds-verdicts-i-in-loop-i
offset_bounds-verdicts-i-in-loop-i c = omega (arith, inside (goal.at.offset_bounds-verdicts-i-in-loop-i c).In-Some (room (goal.at.offset_bounds-verdicts-i-in-loop-i c).Start), c.well_formed)

pub bounds-verdicts-i-in-loop-i : goal.bounds-verdicts-i-in-loop-i
bounds-verdicts-i-in-loop-i c = inside (goal.at.bounds-verdicts-i-in-loop-i c).In-Some (room (goal.at.bounds-verdicts-i-in-loop-i c).Start)

pub verdict-requires : goal.verdict-requires
verdict-requires c =
    let s = (goal.at.verdict-requires c).In-Some in
    let k = (goal.at.verdict-requires c).Start in
    let lines = split_on 10 c.args.text.now in
    let t = turn s in
    let after = named-long (new k) lines in
    let before = named-long (old k) lines in
    record {
      line_value = named-of lines _ _ t.0 t.2;
      before_value =
          rw (t.1, written-kept c.loop-i.invariant.written (omega arith) (room k))
          (front-of c.args.verdicts.now (verdicts_by (old k) lines) _ (length c.loop-i.yielded) c.requires.is (omega (arith, t.0)) ∙ sym (named-at (old k) lines _ _ t.0 t.2));
    }

pub loop-i-preserved : goal.loop-i-preserved
loop-i-preserved c =
    let s = (goal.at.loop-i-preserved c).In-Some in
    let k = (goal.at.loop-i-preserved c).Start in
    let t = turn s in
    let long = named-long (new k) (split_on 10 c.args.text.now) in
    let w = c.loop-i.invariant in
    record {
      can = c.in-Some.ensures.goes.keeps;
      ends = (c.in-Some.ensures.goes.on w.ends).1;
      written =
          rw (length_push c.loop-i.yielded (c.in-Some.i, c.in-Some.line), t.1)
          (written-next w.written (omega arith) (room k) (omega arith) _ (c.verdict.ensures ∙ named-at (new k) (split_on 10 c.args.text.now) _ _ t.0 t.2));
    }

pub returns : goal.returns
returns c =
    let k = (goal.at.returns c).Start in
    let lines = split_on 10 c.args.text.now in
    let named = YieldsList-from_filter _ has_name (YieldsList-from_first (λ x. x.now) lines_left lines (ap lines_left c.filter-named.ensures.source ∙ c.of.ensures)) c.filter-named.ensures.closure (λ x r q k. search (rules, tests)) in
    let all = YieldsList-at c.into_iter-i-iterator.ensures.into_iter_gives (YieldsList-from_enumerate (YieldsList-at c.enumerate-i-items.ensures.source named) c.enumerate-i-items.ensures.count) in
    let end = (YieldsList-end all c.loop-i.yielded _ c.loop-i.yielded_by _ _ c.in-None.is c.next.ensures.steps).1 in
    let count : length c.loop-i.yielded ≡ length (verdicts_by (new k) lines) = end ∙ length-enumerate_from 0 (filter has_name lines) ∙ named-long (new k) lines in
    rw (verdicts-long (new k) lines) at (written-end c.loop-i.invariant.written (omega arith) (room k) count)
