-- `lines::stretches::integrity_fault` meets its contract. Assumes nothing.
use mathlib.Core.Path.{sym, ◌∙◌}
use Prim.Native.Nat.{◌-◌}
use lib.ListN.{length, take, drop}
use native.Mathlib.Omega.{arith}
use Rattle.laws.proofs.First.{and_both}
use Rattle.laws.proofs.Loops.{part-drop}
use Rattle.lines.proofs.Standing.{clean_line, clean-none, integrity-spans}
use Rattle.lines.proofs.stretches.integrity_fault.Goals as goal

pub read_line-b-requires : goal.read_line-b-requires
read_line-b-requires c = omega (arith, integrity-spans)

pub read_line-c-requires : goal.read_line-c-requires
read_line-c-requires c = omega (arith, integrity-spans)

pub read_line-d-requires : goal.read_line-d-requires
read_line-d-requires c = omega (arith, integrity-spans)

pub read_line-e-requires : goal.read_line-e-requires
read_line-e-requires c = omega (arith, integrity-spans)

pub read_line-f-requires : goal.read_line-f-requires
read_line-f-requires c = omega (arith, integrity-spans)

pub returns-then-clean : goal.returns-then-clean
returns-then-clean c =
    let t6 = and_both _ _ c.if-clean.true in
    let t5 = and_both _ _ t6.0 in
    let t4 = and_both _ _ t5.0 in
    let t3 = and_both _ _ t4.0 in
    let t2 = and_both _ _ t3.0 in
    rw (part-drop c.args.s.now c.args.at) at
    (clean_line 16 5 0 _ _ c.read_line-a.result (omega arith) (c.behind.ensures ∙ c.read_line-a.ensures.behind) c.read_line-a.ensures (sym c.is_ok.ensures.value ∙ t2.0)
    (clean_line 17 4 _ _ _ c.read_line-b.result (omega arith) (c.behind-then-v-ge-INTEGRITY_BYTES.ensures ∙ c.read_line-b.ensures.behind) c.read_line-b.ensures (sym c.is_ok-then-v-ge-INTEGRITY_BYTES.ensures.value ∙ t2.1)
    (clean_line 18 3 _ _ _ c.read_line-c.result (omega arith) (c.behind-then-v-ge-INTEGRITY_BYTES-2.ensures ∙ c.read_line-c.ensures.behind) c.read_line-c.ensures (sym c.is_ok-then-v-ge-INTEGRITY_BYTES-2.ensures.value ∙ t3.1)
    (clean_line 19 2 _ _ _ c.read_line-d.result (omega arith) (c.behind-then-v-ge-INTEGRITY_BYTES-3.ensures ∙ c.read_line-d.ensures.behind) c.read_line-d.ensures (sym c.is_ok-then-v-ge-INTEGRITY_BYTES-3.ensures.value ∙ t4.1)
    (clean_line 20 1 _ _ _ c.read_line-e.result (omega arith) (c.behind-then-v-ge-INTEGRITY_BYTES-4.ensures ∙ c.read_line-e.ensures.behind) c.read_line-e.ensures (sym c.is_ok-then-v-ge-INTEGRITY_BYTES-4.ensures.value ∙ t5.1)
    (clean_line 21 0 _ _ _ c.read_line-f.result (omega arith) c.read_line-f.ensures.behind c.read_line-f.ensures (sym c.is_ok-then-v-ge-INTEGRITY_BYTES-5.ensures.value ∙ t6.1)
    (clean-none 22 _ (take (length c.args.s.now - c.args.at) (drop c.args.at c.args.s.now)))))))))
