-- `merge::place` meets its contract: each node that comes before t moves one place to the front, and t takes the place in front of the first that does not.
-- Assumes nothing.
use native.Mathlib.Omega.{arith}
use Rattle.merge.proofs.Sorting.{place_start, place_over, place_found, place_turn}
use Rattle.merge.proofs.place.Goals.{then-loop-k-test+else-before, else-loop-k-test}
use Rattle.merge.proofs.place.Goals as goal

pub loop-k-init : goal.loop-k-init
loop-k-init c = place_start c.requires

pub loop-k-preserved : goal.loop-k-preserved
loop-k-preserved c = place_turn c.requires c.loop-k.invariant (omega arith) c.before-in-loop-k.ensures c.if-before.true

pub returns : goal.returns
returns c =
    elim c.loop-k-test.branch [
      | then-loop-k-test+else-before w ↦ place_found c.requires c.loop-k.invariant (let l = w.loop-k-test.true in omega arith) w.before-in-loop-k.ensures w.if-before.false
      | else-loop-k-test w ↦ place_over c.requires c.loop-k.invariant (let l = w.loop-k-test.false in omega arith)
    ]
