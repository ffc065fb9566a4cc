-- `kind_graph::edges` meets its contract: the pairs set so far, with the triples of the nodes from i on, are the edges of the whole part.
-- Assumes nothing.
use Rattle.kind_graph.proofs.Linking.{link_start, edges_next, edges_end}
use Rattle.kind_graph.proofs.edges.Goals as goal

pub loop-i-init : goal.loop-i-init
loop-i-init c = link_start _ c.requires.2 c.clear.ensures

pub loop-i-preserved : goal.loop-i-preserved
loop-i-preserved c =
    let a = c.args in
    edges_next a.question.now a.words.now a.xs.start a.xs.end c.loop-i-test.true c.load-x.ensures c.loop-i.invariant
    (rw (c.from.ensures, c.from-in-loop-i.ensures) at c.set_pair.ensures)

pub returns : goal.returns
returns c =
    let a = c.args in
    edges_end a.question.now a.words.now a.xs.start a.xs.end c.loop-i-test.false c.loop-i.invariant
