-- `kind_graph::first_round` meets its contract: the numbers so far, raised by the nodes from i on, are the start raised by the whole part; a node's size is that of its path.
-- Assumes nothing.
use Rattle.kind_graph.proofs.Rounds.{round_next, round_end, size_is}
use Rattle.kind_graph.proofs.first_round.Goals as goal

pub loop-i-preserved : goal.loop-i-preserved
loop-i-preserved c =
    let h = c.requires.0 in
    let l = c.loop-i-test.true in
    let x = c.load-x.ensures in
    (round_next h l x (size_is h l x) c.loop-i.invariant c.raise.ensures)

pub returns : goal.returns
returns c = round_end c.requires.0 c.loop-i-test.false c.loop-i.invariant
