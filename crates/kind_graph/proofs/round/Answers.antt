-- `kind_graph::round` meets its contract: the numbers so far, raised by the nodes from i on, are the start raised by all; a node weighs as the largest walk to it, joined with it.
-- Assumes nothing.
use Rattle.kind_graph.proofs.Rounds.{round_next, round_end, weight_is}
use Rattle.kind_graph.proofs.round.Goals as goal

pub loop-i-preserved : goal.loop-i-preserved
loop-i-preserved c =
    let h = c.requires.0 in
    let l = c.loop-i-test.true in
    let x = c.load-x.ensures in
    (round_next h l x (weight_is h l x c.args.best.now (rw c.from-k.ensures at c.extend.ensures)) c.loop-i.invariant c.raise.ensures)

pub returns : goal.returns
returns c = round_end c.requires.0 c.loop-i-test.false c.loop-i.invariant
