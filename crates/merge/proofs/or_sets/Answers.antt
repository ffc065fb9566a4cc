-- `merge::or_sets` meets its contract: the sets before j are unions, and those from j on are as they were.
-- Assumes nothing.
use Rattle.merge.proofs.Merging.{or_turn}
use native.Mathlib.Omega.{arith}
use Rattle.merge.proofs.or_sets.Goals as goal

pub loop-j-preserved : goal.loop-j-preserved
loop-j-preserved c = or_turn c.loop-j.invariant (omega (arith, c.requires, c.loop-j-test.true))
