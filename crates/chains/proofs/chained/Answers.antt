-- `chains::chained` meets its contract: each pair of symbols that was passed is a step and a join through a set.
-- Assumes nothing.
use Rattle.chains.proofs.Symbols.{chained_more}
use native.Mathlib.Omega.{arith}
use Rattle.chains.proofs.chained.Goals as goal

pub loop-j-preserved : goal.loop-j-preserved
loop-j-preserved c =
    let i = c.loop-j.invariant in
    (omega (arith, i.1, c.loop-j-test.true), i.1, chained_more _ i.2 (c.is_step-in-loop-j.ensures c.if-not-is_step-2.false) c.if-numbers-j.false)
