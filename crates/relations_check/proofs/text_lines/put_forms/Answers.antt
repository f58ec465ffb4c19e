-- `relations_check::text_lines::put_forms` meets its contract. Assumes nothing.
use Prim.Native.Nat.{◌<◌}
use mathlib.Core.Logic.{inl}
use mathlib.Core.Path.{◌≡◌, ap, ◌∙◌}
use native.Mathlib.Omega.{arith}
use borrow.Author.Rules.{rules}
use borrow.Author.Tests.{tests}
use lib.ListN.{length, get_or}
use Rattle.std.proofs.Common.{of_calls}
use Rattle.std.specs.List.{filter_map}
use Rattle.std.proofs.lemmas.List.{length_push}
use Rattle.std.proofs.lemmas.List.FromFn.{length-enumerate_from}
use Rattle.std.proofs.lemmas.Iterator.Consumers.{YieldsList-from_first, YieldsList-from_filter_map, YieldsList-from_enumerate, YieldsList-at, YieldsList-turn, YieldsList-end}
use Rattle.metafile.specs.Relations.{split_on, verdicts_by}
use Rattle.relation_line.specs.Form.{first_verdict}
use Rattle.relations_check.specs.Judged.{never}
use Rattle.relations_check.specs.TextLines.{lines_left}
use Rattle.relations_check.proofs.Lines.{lines-few, numbered, formed-at, forms-long, written-none, written-long, written-next, written-end}
use Rattle.relations_check.proofs.text_lines.put_forms.Goals as goal
use Rattle.relations_check.proofs.text_lines.put_forms.Goals.{In-Some}

pub loop-i-init : goal.loop-i-init
loop-i-init c =
    let left : lines_left c.into_iter-i-iterator.result.iter.iter ≡ split_on 10 c.args.text.now = cc in
    let begins : c.into_iter-i-iterator.result.count ≡ 0 = cc in
    record {
      can = ((tt, tt, search of_calls), tt, inl (omega (arith, ap length left, lines-few 10 c.args.text.now, c.well_formed)));
      ends = tt;
      written = written-none _ _;
    }

-- the form that comes next
turn : (c : In-Some) → (length c.loop-i.yielded < length (filter_map first_verdict (split_on 10 c.args.text.now))) × (c.in-Some.i ≡ length c.loop-i.yielded)
    × (c.in-Some.form ≡ get_or (filter_map first_verdict (split_on 10 c.args.text.now)) (length c.loop-i.yielded) c.in-Some.form)
turn c =
    let lines = split_on 10 c.args.text.now in
    let forms = YieldsList-from_filter_map _ first_verdict (YieldsList-from_first (λ x. x.now) lines_left lines (ap lines_left c.filter_map-forms.ensures.source ∙ c.of.ensures)) c.filter_map-forms.ensures.closure (λ x r q k. search (rules, tests)) in
    let all = YieldsList-at c.into_iter-i-iterator.ensures.into_iter_gives (YieldsList-from_enumerate (YieldsList-at c.enumerate-i-items.ensures.source forms) c.enumerate-i-items.ensures.count) in
    numbered (filter_map first_verdict lines) _ _ _ (YieldsList-turn all c.loop-i.yielded _ c.loop-i.yielded_by _ _ (c.in-Some.i, c.in-Some.form) c.in-Some.is c.next.ensures.steps)

all-long : (c : In-Some) → length (filter_map first_verdict (split_on 10 c.args.text.now)) ≡ length (verdicts_by never (split_on 10 c.args.text.now))
all-long c = forms-long (split_on 10 c.args.text.now)

inside : (c : In-Some) → c.in-Some.i < length c.loop-i.verdicts
inside c =
    let t = turn c in
    let long = all-long c in
    omega (arith, t.0, t.1, written-long c.loop-i.invariant.written (omega arith) c.requires, c.requires)

pub offset_bounds-verdicts-i : goal.offset_bounds-verdicts-i
offset_bounds-verdicts-i c =
    let k = (goal.at.offset_bounds-verdicts-i c).In-Some in
    omega (arith, inside k, c.well_formed)

pub bounds-verdicts-i : goal.bounds-verdicts-i
bounds-verdicts-i c = inside (goal.at.bounds-verdicts-i c).In-Some

pub loop-i-preserved : goal.loop-i-preserved
loop-i-preserved c =
    let k = (goal.at.loop-i-preserved c).In-Some in
    let t = turn k in
    let long = all-long k in
    let w = c.loop-i.invariant in
    record {
      can = c.in-Some.ensures.goes.keeps;
      ends = (c.in-Some.ensures.goes.on w.ends).1;
      written =
          rw (length_push c.loop-i.yielded (c.in-Some.i, c.in-Some.form), t.1)
          (written-next w.written (omega arith) c.requires (omega arith) _ (c.from.ensures ∙ formed-at (split_on 10 c.args.text.now) _ _ t.0 t.2));
    }

pub returns : goal.returns
returns c =
    let lines = split_on 10 c.args.text.now in
    let forms = YieldsList-from_filter_map _ first_verdict (YieldsList-from_first (λ x. x.now) lines_left lines (ap lines_left c.filter_map-forms.ensures.source ∙ c.of.ensures)) c.filter_map-forms.ensures.closure (λ x r q k. search (rules, tests)) in
    let all = YieldsList-at c.into_iter-i-iterator.ensures.into_iter_gives (YieldsList-from_enumerate (YieldsList-at c.enumerate-i-items.ensures.source forms) c.enumerate-i-items.ensures.count) in
    let end = (YieldsList-end all c.loop-i.yielded _ c.loop-i.yielded_by _ _ c.in-None.is c.next.ensures.steps).1 in
    let count : length c.loop-i.yielded ≡ length (verdicts_by never lines) = end ∙ length-enumerate_from 0 (filter_map first_verdict lines) ∙ forms-long lines in
    written-end c.loop-i.invariant.written (omega arith) c.requires count
