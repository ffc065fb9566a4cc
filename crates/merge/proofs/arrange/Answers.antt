-- `merge::arrange` meets its contract: it is an insertion sort from the last node to the first, in which those from s + i on always stand sorted at i to n.
-- Assumes nothing.
use Rattle.merge.proofs.Sorting.{arrange_start, arrange_asks, arrange_turn, arrange_over}
use Rattle.merge.proofs.arrange.Goals as goal

pub loop-i-init : goal.loop-i-init
loop-i-init c = arrange_start c.requires

pub place-requires : goal.place-requires
place-requires c = rw c.loop-i.invariant.same_length (arrange_asks c.requires c.loop-i.invariant c.loop-i-test.true)

pub loop-i-preserved : goal.loop-i-preserved
loop-i-preserved c = arrange_turn c.requires c.loop-i.invariant c.loop-i-test.true (rw c.loop-i.invariant.same_length at c.place.ensures)

pub returns : goal.returns
returns c = arrange_over c.requires c.loop-i.invariant c.loop-i-test.false
