-- `closure_rule::grow_walks` meets its contract: each walk is a shorter one joined with a triple of the start, and one of 25 triples would be too long, so the growth has them all.
-- Assumes nothing.
use Rattle.closure_rule.proofs.Growing.{walks_start, walks_asks, walks_turn, walks_many, walks_over}
use Rattle.closure_rule.proofs.grow_walks.Goals as goal

pub loop-i-init : goal.loop-i-init
loop-i-init c = walks_start c.requires

pub add_row-count-requires : goal.add_row-count-requires
add_row-count-requires c = walks_asks c.requires c.loop-i.invariant c.loop-i-test.true

pub returns-then-count-gt-MOST : goal.returns-then-count-gt-MOST
returns-then-count-gt-MOST c = walks_many c.requires c.loop-i.invariant c.loop-i-test.true c.add_row-count.ensures c.if-count-gt-MOST.true

pub loop-i-preserved : goal.loop-i-preserved
loop-i-preserved c = walks_turn c.requires c.loop-i.invariant c.loop-i-test.true c.add_row-count.ensures c.if-count-gt-MOST.false

pub returns : goal.returns
returns c = walks_over c.requires c.loop-i.invariant c.loop-i-test.false
