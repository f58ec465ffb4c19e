-- `lines::stretches::head_lines_fault` meets its contract. Assumes nothing.
use mathlib.Core.Path.{sym, ◌∙◌}
use native.Mathlib.Omega.{arith}
use Rattle.laws.proofs.First.{and_both}
use Rattle.lines.proofs.Standing.{clean_line, clean-none, head-spans}
use Rattle.lines.proofs.stretches.head_lines_fault.Goals as goal

pub read_line-b-requires : goal.read_line-b-requires
read_line-b-requires c = omega (arith, head-spans)

pub read_line-c-requires : goal.read_line-c-requires
read_line-c-requires c = omega (arith, head-spans)

pub read_line-d-requires : goal.read_line-d-requires
read_line-d-requires c = omega (arith, head-spans)

pub read_line-e-requires : goal.read_line-e-requires
read_line-e-requires c = omega (arith, head-spans)

pub read_line-f-requires : goal.read_line-f-requires
read_line-f-requires c = omega (arith, head-spans)

pub read_line-g-requires : goal.read_line-g-requires
read_line-g-requires c = omega (arith, head-spans)

pub read_line-h-requires : goal.read_line-h-requires
read_line-h-requires c = omega (arith, head-spans)

pub returns-then-clean : goal.returns-then-clean
returns-then-clean c =
    let t8 = and_both _ c.is_ok-then-s-ge-DEPENDENCY_COUNT_LINE-7.result c.if-clean.true in
    let t7 = and_both _ _ t8.0 in
    let t6 = and_both _ _ t7.0 in
    let t5 = and_both _ _ t6.0 in
    let t4 = and_both _ _ t5.0 in
    let t3 = and_both _ _ t4.0 in
    let t2 = and_both _ _ t3.0 in
    clean_line 0 7 0 _ _ c.read_line-a.result (omega arith) (c.behind.ensures ∙ c.read_line-a.ensures.behind) c.read_line-a.ensures (sym c.is_ok.ensures.value ∙ t2.0)
    (clean_line 1 6 _ _ _ c.read_line-b.result (omega arith) (c.behind-then-s-ge-DEPENDENCY_COUNT_LINE.ensures ∙ c.read_line-b.ensures.behind) c.read_line-b.ensures (sym c.is_ok-then-s-ge-DEPENDENCY_COUNT_LINE.ensures.value ∙ t2.1)
    (clean_line 2 5 _ _ _ c.read_line-c.result (omega arith) (c.behind-then-s-ge-DEPENDENCY_COUNT_LINE-2.ensures ∙ c.read_line-c.ensures.behind) c.read_line-c.ensures (sym c.is_ok-then-s-ge-DEPENDENCY_COUNT_LINE-2.ensures.value ∙ t3.1)
    (clean_line 3 4 _ _ _ c.read_line-d.result (omega arith) (c.behind-then-s-ge-DEPENDENCY_COUNT_LINE-3.ensures ∙ c.read_line-d.ensures.behind) c.read_line-d.ensures (sym c.is_ok-then-s-ge-DEPENDENCY_COUNT_LINE-3.ensures.value ∙ t4.1)
    (clean_line 4 3 _ _ _ c.read_line-e.result (omega arith) (c.behind-then-s-ge-DEPENDENCY_COUNT_LINE-4.ensures ∙ c.read_line-e.ensures.behind) c.read_line-e.ensures (sym c.is_ok-then-s-ge-DEPENDENCY_COUNT_LINE-4.ensures.value ∙ t5.1)
    (clean_line 5 2 _ _ _ c.read_line-f.result (omega arith) (c.behind-then-s-ge-DEPENDENCY_COUNT_LINE-5.ensures ∙ c.read_line-f.ensures.behind) c.read_line-f.ensures (sym c.is_ok-then-s-ge-DEPENDENCY_COUNT_LINE-5.ensures.value ∙ t6.1)
    (clean_line 6 1 _ _ _ c.read_line-g.result (omega arith) (c.behind-then-s-ge-DEPENDENCY_COUNT_LINE-6.ensures ∙ c.read_line-g.ensures.behind) c.read_line-g.ensures (grind (arith, t8.0, c.is_ok-then-s-ge-DEPENDENCY_COUNT_LINE-6.ensures.value))
    (clean_line 7 0 _ _ _ c.read_line-h.result (omega arith) c.read_line-h.ensures.behind c.read_line-h.ensures (sym c.is_ok-then-s-ge-DEPENDENCY_COUNT_LINE-7.ensures.value ∙ t8.1)
    (clean-none 8 _ c.args.s.now))))))))
