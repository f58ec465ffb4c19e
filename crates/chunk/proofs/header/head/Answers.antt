-- `chunk::header::head` meets its contract. Assumes nothing.
use Prim.Native.Nat.{ℕ, ◌+◌, ◌*◌, ◌≤◌}
use mathlib.Core.Path.{◌≡◌, sym, ap, ◌∙◌}
use mathlib.Core.List.{◌∷◌, []}
use native.Mathlib.Omega.{arith}
use lib.ListN.{length, drop}
use Rattle.std.proofs.lemmas.Result.{err_from_is_err_and}
use Rattle.metafile.specs.Lines.{lf, run, value, free}
use Rattle.metafile.specs.Chunk.{header_length, dependency_bytes, header_bytes, dependencies, chunk_header_fault, dependency_fields, specific_place, specific}
use Rattle.metafile.specs.declared.refusal.Refusal.TheVariants.{Short}
use Rattle.laws.proofs.Stages.{stop, go}
use Rattle.lines.proofs.Runs.{refused}
use Rattle.chunk.specs.Layout.{Numbers}
use Rattle.chunk.proofs.Headers.{head-long, header-below, header-bytes-is, dependencies-long, dependencies-are, specific-short, specific-whole, head-refused}
use Rattle.chunk.proofs.header.head.Goals as goal
use Rattle.chunk.proofs.header.head.Goals.{After-count_at-header, In_ok-dependencies_fault}

-- the numbers read
numbers : (c : After-count_at-header) → Numbers c.args.s.now c.dependencies-n.result c.count_at-announced.result c.count_at-header.result
unfolding dependency_bytes header_length
numbers c = record { n-is = c.dependencies-n.ensures; d-is = c.count_at-announced.ensures; h-is = c.count_at-header.ensures }

module _ (c : In_ok-dependencies_fault) where
  dependencies-none : run (lf ∷ dependency_fields (dependencies c.args.s.now)) (drop 567 c.args.s.now) ≡ 0
  dependencies-none = sym (dependencies-are c.args.s.now _ _ c.dependencies-n.ensures c.in_ok-dependencies_fault.ensures)

  room : 568 + 344 * dependencies c.args.s.now ≤ length c.args.s.now
  room = dependencies-long _ c.args.s.now (head-long _ (sym c.in_ok-head_fault.ensures)) dependencies-none

  bytes-are : c.count_at-header.result + 32 ≡ header_bytes c.args.s.now
  unfolding header_length
  bytes-are = ap (λ (h : ℕ). h + 32) c.count_at-header.ensures ∙ sym (header-bytes-is c.args.s.now (sym c.in_ok-numbers_fault.ensures))

  -- so the answer is the last stage's
  last : (f : ℕ) → f ≡ run (value (free (specific c.args.s.now)) ∷ []) (drop (specific_place c.args.s.now) c.args.s.now) → f ≡ chunk_header_fault c.args.s.now
  unfolding chunk_header_fault
  last f e = go _ _ _ (sym c.in_ok-head_fault.ensures) (go _ _ _ (sym c.in_ok-numbers_fault.ensures) (go _ _ _ dependencies-none e))

pub returns-in_err-head_fault : goal.returns-in_err-head_fault
unfolding chunk_header_fault
returns-in_err-head_fault c =
    let p = err_from_is_err_and c.from_residual.result c.from_residual.ensures.1 in
    rw (p.1, p.2) (head-refused _ (stop _ _ _ c.in_err-head_fault.ensures (refused _)))

pub dependencies-n-requires : goal.dependencies-n-requires
dependencies-n-requires c = head-long _ (sym c.in_ok-head_fault.ensures)

pub count_at-announced-requires : goal.count_at-announced-requires
count_at-announced-requires c = (omega arith, omega (arith, head-long c.args.s.now (sym c.in_ok-head_fault.ensures)))

pub count_at-header-requires : goal.count_at-header-requires
count_at-header-requires c = (omega arith, omega (arith, head-long c.args.s.now (sym c.in_ok-head_fault.ensures)))

pub numbers_fault-requires : goal.numbers_fault-requires
numbers_fault-requires c =
    record { lines = sym c.in_ok-head_fault.ensures; numbers = numbers (goal.at.numbers_fault-requires c).After-count_at-header }

pub returns-in_err-numbers_fault : goal.returns-in_err-numbers_fault
unfolding chunk_header_fault
returns-in_err-numbers_fault c =
    let p = err_from_is_err_and c.from_residual-in_err-numbers_fault.result c.from_residual-in_err-numbers_fault.ensures.1 in
    rw (p.1, p.2) (head-refused _ (go _ _ _ (sym c.in_ok-head_fault.ensures) (stop _ _ _ c.in_err-numbers_fault.ensures (refused _))))

pub dependencies_fault-requires : goal.dependencies_fault-requires
dependencies_fault-requires c = head-long _ (sym c.in_ok-head_fault.ensures)

pub returns-in_err-dependencies_fault : goal.returns-in_err-dependencies_fault
unfolding chunk_header_fault
returns-in_err-dependencies_fault c =
    let p = err_from_is_err_and c.from_residual-in_err-dependencies_fault.result c.from_residual-in_err-dependencies_fault.ensures.1 in
    rw (p.1, p.2) (head-refused _ (go _ _ _ (sym c.in_ok-head_fault.ensures) (go _ _ _ (sym c.in_ok-numbers_fault.ensures) (stop _ _ _ (dependencies-are c.args.s.now _ _ c.dependencies-n.ensures c.in_err-dependencies_fault.ensures) (refused _)))))

pub overflow_add-bytes : goal.overflow_add-bytes
overflow_add-bytes c =
    omega (
      arith,
      (numbers (goal.at.overflow_add-bytes c).After-count_at-header).h-is,
      header-below c.args.s.now (sym c.in_ok-head_fault.ensures),
    )

pub returns-then-s-bytes : goal.returns-then-s-bytes
returns-then-s-bytes c =
    let d = (goal.at.returns-then-s-bytes c).In_ok-dependencies_fault in
    head-refused Short (last d 4 (specific-short _ (room d) (omega (arith, bytes-are d, c.if-s-bytes.true))))

pub returns : goal.returns
returns c =
    let d = (goal.at.returns c).In_ok-dependencies_fault in
    record {
      fault = last d 0 (specific-whole _ (room d) (omega (arith, bytes-are d, c.if-s-bytes.false)));
      bytes-are = bytes-are d;
      count-is = c.dependencies-n.ensures;
    }
