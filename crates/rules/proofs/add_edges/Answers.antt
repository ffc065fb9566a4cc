-- `rules::add_edges` meets its contract: a turn adds the triples from kind a, and those from the kinds after a are what is left to add.
-- Assumes nothing.
use Rattle.rules.proofs.Edges.{edges_start}
use Rattle.rules.proofs.Ranging.{ranging_turn, ranging_many, ranging_over}
use Rattle.rules.proofs.add_edges.Goals as goal

pub loop-a-init : goal.loop-a-init
loop-a-init c = edges_start c.requires

pub returns-then-count-gt-MOST : goal.returns-then-count-gt-MOST
returns-then-count-gt-MOST c = ranging_many c.loop-a.invariant c.loop-a-test.true c.add_edges_from-count.ensures c.if-count-gt-MOST.true

pub loop-a-preserved : goal.loop-a-preserved
loop-a-preserved c = ranging_turn c.loop-a.invariant c.loop-a-test.true c.add_edges_from-count.ensures c.if-count-gt-MOST.false

pub returns : goal.returns
returns c = ranging_over c.loop-a.invariant c.loop-a-test.false
