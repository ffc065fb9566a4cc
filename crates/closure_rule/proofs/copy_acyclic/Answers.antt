-- `closure_rule::copy_acyclic` meets its contract: the nodes passed whose ends are not cyclic were added once each, and the filter of those from j on is still to come.
-- Assumes nothing.
use Rattle.closure_rule.proofs.Acyclic.{acyclic_start, acyclic_asks, acyclic_skip, acyclic_turn, acyclic_over}
use Rattle.closure_rule.proofs.copy_acyclic.Goals as goal
use Rattle.closure_rule.proofs.copy_acyclic.Goals.{then-acyclic, else-acyclic}

pub loop-j-init : goal.loop-j-init
loop-j-init c = acyclic_start c.requires

pub add-count-requires : goal.add-count-requires
add-count-requires c = acyclic_asks c.requires c.loop-j.invariant c.loop-j-test.true c.load-x.ensures

pub loop-j-preserved : goal.loop-j-preserved
loop-j-preserved c =
    elim c.if-acyclic.branch [
      | then-acyclic w ↦ rw (w.words-is, w.count-is) (acyclic_turn c.requires c.loop-j.invariant c.loop-j-test.true c.load-x.ensures c.acyclic.ensures w.if-acyclic.true w.add-count.ensures)
      | else-acyclic w ↦ rw (w.words-is, w.count-is) (acyclic_skip c.requires c.loop-j.invariant c.loop-j-test.true c.load-x.ensures c.acyclic.ensures w.if-acyclic.false)
    ]

pub returns : goal.returns
returns c = acyclic_over c.requires c.loop-j.invariant c.loop-j-test.false
