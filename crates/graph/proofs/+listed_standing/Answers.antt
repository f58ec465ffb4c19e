-- `graph::standing` and `graph::listed`, which call each other, meet their contracts. Assumes nothing.
use Rattle.std.proofs.Common.{arith}
use Rattle.laws.proofs.Closure.{circle-on}
use Rattle.graph.proofs.Laws.{goes-there, goes-not, on-circle, visits, list-given, row_done, list-next, standing-given, list-more}
use Rattle.graph.proofs.+listed_standing.Goals as goal
use Rattle.graph.proofs.+listed_standing.Goals.{listed-else-goes-via-then-goes+else-not-standing, listed-else-goes-via-else-goes}

pub listed-standing-requires : goal.listed-standing-requires
listed-standing-requires t c =
    (omega (arith, c.decreases), standing-given c.requires c.loop-b.invariant c.loop-b-test.true (goes-there _ _ _ c.if-goes.true))

pub listed-returns-then-not-standing-clause-circle : goal.listed-returns-then-not-standing-clause-circle
listed-returns-then-not-standing-clause-circle t c =
    λ _. circle-on _ _ _ _ c.loop-b-test.true (goes-there _ _ _ c.if-goes.true) (c.standing.ensures.circle c.if-not-standing.true)

pub listed-loop-b-preserved : goal.listed-loop-b-preserved
listed-loop-b-preserved t c =
    let l = c.loop-b.invariant in
    elim c.else-goes.branch [
      | listed-else-goes-via-then-goes+else-not-standing w ↦
          rw w.marks-is (list-more c.requires l c.loop-b-test.true (goes-there _ _ _ w.if-goes.true) (w.standing.ensures.done w.if-not-standing.false))
      | listed-else-goes-via-else-goes w ↦ rw w.marks-is (list-next c.requires l (goes-not _ _ _ w.if-goes.false))
    ]

pub standing-returns-in-OnPath-clause-circle : goal.standing-returns-in-OnPath-clause-circle
standing-returns-in-OnPath-clause-circle t c = λ _. on-circle c.requires c.in-OnPath.is

pub standing-listed-fine-requires : goal.standing-listed-fine-requires
standing-listed-fine-requires t c =
    (omega (arith, c.decreases, visits c.requires c.in-Unvisited.is), list-given c.requires c.in-Unvisited.is)

pub standing-returns-then-fine-clause-done : goal.standing-returns-then-fine-clause-done
standing-returns-then-fine-clause-done t c = λ e. row_done c.requires c.in-Unvisited.is (c.listed-fine.ensures.done e)
