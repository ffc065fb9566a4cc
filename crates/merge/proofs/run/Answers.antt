-- `merge::run` meets its contract: the arrays hold the merged member of the nodes from k to `next`, and the first node of other codes begins the next member.
-- Assumes nothing.
use Rattle.merge.proofs.Merging.{run_start, run_ends, run_turn, run_over}
use Rattle.merge.proofs.run.Goals as goal

pub loop-next-init : goal.loop-next-init
loop-next-init c = run_start c.requires c.expand-size.ensures c.kinds-e.ensures

pub loop-next-preserved : goal.loop-next-preserved
loop-next-preserved c =
    run_turn c.requires c.loop-next.invariant c.loop-next-test.true c.take_in.ensures c.if-take_in.true c.kinds-f.ensures

pub returns-else-take_in : goal.returns-else-take_in
returns-else-take_in c = run_ends c.requires c.loop-next.invariant c.loop-next-test.true c.take_in.ensures c.if-take_in.false

pub returns-after-loop-next : goal.returns-after-loop-next
returns-after-loop-next c = run_over c.requires c.loop-next.invariant c.loop-next-test.false
