-- `chains::Walk::add_rows` meets its contract: band after band of 64 rows gains its pairs.
-- Assumes nothing.
use native.Mathlib.Omega.{arith}
use Rattle.chains.proofs.Gains.{gained_then, gained_word}
use Rattle.chains.proofs.Walk.add_rows.Goals as goal

pub loop-i-preserved : goal.loop-i-preserved
loop-i-preserved c = let l = c.loop-i in (omega arith, gained_word l.i (gained_then l.invariant.1 c.add_word.ensures (omega arith) (omega arith)))
