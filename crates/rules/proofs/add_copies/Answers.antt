-- `rules::add_copies` meets its contract: a copy has the triple of its node, and the part with the copies still to come is at each turn the list that is due.
-- Assumes nothing.
use Rattle.rules.proofs.Copies.{copies_asks, copies_turn, copies_many, copies_over}
use Rattle.rules.proofs.add_copies.Goals as goal

pub add-count-requires : goal.add-count-requires
add-count-requires c = copies_asks c.requires c.loop-j.invariant c.loop-j-test.true c.load-n.ensures

pub returns-then-count-gt-MOST : goal.returns-then-count-gt-MOST
returns-then-count-gt-MOST c =
    copies_many c.requires c.loop-j.invariant c.loop-j-test.true c.load-n.ensures c.add-count.ensures c.if-count-gt-MOST.true

pub loop-j-preserved : goal.loop-j-preserved
loop-j-preserved c =
    copies_turn c.requires c.loop-j.invariant c.loop-j-test.true c.load-n.ensures c.add-count.ensures c.if-count-gt-MOST.false

pub returns : goal.returns
returns c = copies_over c.requires c.loop-j.invariant c.loop-j-test.false
