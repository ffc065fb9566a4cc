-- `rules::add_edges_from` meets its contract: a turn adds the triple to kind b, where the matrix has it, and those to the kinds after b are left; a word of 0 has none.
-- Assumes nothing.
use Rattle.rules.proofs.Edges.{from_start, from_skipped}
use Rattle.rules.proofs.Ranging.{ranging_turn, ranging_many, ranging_over}
use Rattle.rules.proofs.add_edges_from.Goals as goal

pub returns-then-matrix-from-eq0 : goal.returns-then-matrix-from-eq0
returns-then-matrix-from-eq0 c = from_skipped c.requires.0 _ (rw c.from.ensures at c.if-matrix-from-eq0.true)

pub loop-b-init : goal.loop-b-init
loop-b-init c = from_start c.requires.0 _

pub returns-then-count-gt-MOST : goal.returns-then-count-gt-MOST
returns-then-count-gt-MOST c = ranging_many c.loop-b.invariant c.loop-b-test.true c.add_edge-count.ensures c.if-count-gt-MOST.true

pub loop-b-preserved : goal.loop-b-preserved
loop-b-preserved c = ranging_turn c.loop-b.invariant c.loop-b-test.true c.add_edge-count.ensures c.if-count-gt-MOST.false

pub returns : goal.returns
returns c = ranging_over c.loop-b.invariant c.loop-b-test.false
