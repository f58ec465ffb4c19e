-- `walk::headers::whole_header` meets its contract. Assumes nothing.
use Prim.Native.Nat.{◌+◌, ◌≤◌}
use lib.ListN.{length}
use Rattle.metafile.specs.Header.{mark_length}
use Rattle.chunk_laws.proofs.File.{header-whole, fits-title}
use Rattle.walk.proofs.Stages.{mark-inside, sum_inside, header-unfaulted}
use native.Mathlib.Omega.{arith}
use Rattle.walk.proofs.headers.whole_header.Goals as goal
use Rattle.walk.proofs.headers.whole_header.Goals.{After-count_value-mark}

-- two marks and the integrity data lie inside the file
inside : (c : After-count_value-mark) → 65 + c.count_value-mark.result + 254 + c.count_value-mark.result ≤ length c.args.file.now
unfolding mark_length
inside c = mark-inside c.args.file.now c.requires _ c.count_value-mark.ensures

pub slice_bounds-count_value-end : goal.slice_bounds-count_value-end
slice_bounds-count_value-end c = omega (arith, fits-title _ (header-whole c.args.file.now c.requires))

pub is_word-llc-requires : goal.is_word-llc-requires
is_word-llc-requires c = omega (arith, fits-title _ (header-whole c.args.file.now c.requires))

pub overflow_add-mark : goal.overflow_add-mark
overflow_add-mark c = omega (arith, inside (goal.at.overflow_add-mark c).After-count_value-mark)

pub slice_bounds-sum_good-end : goal.slice_bounds-sum_good-end
slice_bounds-sum_good-end c = omega (arith, inside (goal.at.slice_bounds-sum_good-end c).After-count_value-mark)

pub sum_good-good-requires : goal.sum_good-good-requires
unfolding mark_length
sum_good-good-requires c = sum_inside c.args.file.now c.requires _ c.count_value-mark.ensures

pub overflow_add-result : goal.overflow_add-result
overflow_add-result c = omega (arith, inside (goal.at.overflow_add-result c).After-count_value-mark)

pub overflow_add-result-2 : goal.overflow_add-result-2
overflow_add-result-2 c = omega (arith, inside (goal.at.overflow_add-result-2 c).After-count_value-mark)

pub overflow_add-result-3 : goal.overflow_add-result-3
overflow_add-result-3 c = omega (arith, inside (goal.at.overflow_add-result-3 c).After-count_value-mark)

pub returns : goal.returns
unfolding mark_length
returns c =
    header-unfaulted c.args.file.now c.requires _ c.count_value-mark.ensures _ _ c.is_word-llc.ensures c.sum_good-good.ensures
