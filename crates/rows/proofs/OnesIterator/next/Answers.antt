-- `Ones::next` meets its contract: the lowest bit is told, and a word less 1 shares with it all its other bits.
-- Assumes nothing.
use Rattle.std.proofs.Common.{arith, rules}
use lib.ListN.{length}
use mathlib.Core.Path.{ap}
use Rattle.rows.proofs.BitLists.{ones_none, ones_lowest}
use Rattle.rows.proofs.OnesIterator.next.Goals as goal

pub returns-then-v-eq0-clause-steps : goal.returns-then-v-eq0-clause-steps
returns-then-v-eq0-clause-steps c = let e = ones_none _ c.if-v-eq0.true in (e, e)

pub returns-clause-steps : goal.returns-clause-steps
returns-clause-steps c = ones_lowest _ _ c.lowest.ensures

pub returns-clause-goes : goal.returns-clause-goes
returns-clause-goes c = let e = ap length (ones_lowest _ _ c.lowest.ensures) in search (rules, arith)
