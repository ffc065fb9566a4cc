-- `kind_graph::walks_short` meets its contract: each round has the largest walks of one triple more, and after a round without a walk there are none.
-- Assumes nothing.
use Rattle.kind_graph.proofs.Rounds.{first_long, rounds_start, rounds_turn, rounds_long, rounds_over, rounds_none}
use native.Mathlib.Omega.{arith}
use Rattle.kind_graph.proofs.walks_short.Goals as goal

pub returns-then-not-at_most : goal.returns-then-not-at_most
returns-then-not-at_most c = first_long c.first_round.ensures (c.at_most.ensures.fails c.if-not-at_most.true)

pub loop-init : goal.loop-init
loop-init c = rounds_start c.first_round.ensures (c.at_most.ensures.holds c.if-not-at_most.false)

pub returns-then-at_most : goal.returns-then-at_most
returns-then-at_most c = rounds_none c.loop.invariant (c.at_most-in-loop.ensures.holds c.if-at_most.true)

pub returns-then-not-at_most-2 : goal.returns-then-not-at_most-2
returns-then-not-at_most-2 c = rounds_long c.loop.invariant c.round.ensures (omega (arith, c.loop-test.true)) (c.at_most-in-loop-2.ensures.fails c.if-not-at_most-2.true)

pub loop-preserved : goal.loop-preserved
loop-preserved c = rounds_turn c.loop.invariant c.round.ensures (c.at_most-in-loop-2.ensures.holds c.if-not-at_most-2.false)

pub returns : goal.returns
returns c = rounds_over c.loop.invariant (omega (arith, c.loop-test.false))
