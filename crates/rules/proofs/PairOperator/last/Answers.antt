-- `rules::PairOperator::last` meets its contract: the triple of both and of branch right ends where the first ends, that of branch left and of join where the second does.
-- Assumes nothing.
use mathlib.Core.Logic.{inl, inr}
use Rattle.rules.specs.PairRules.{giving}
use Rattle.rules.proofs.PairOperator.last.Goals as goal

pub returns-in-Join : goal.returns-in-Join
unfolding giving
returns-in-Join c = elim c.in-Join.is [ inl e ↦ rw e | inr e ↦ rw e ]

pub returns-in-Conjunction : goal.returns-in-Conjunction
unfolding giving
returns-in-Conjunction c = rw c.in-Conjunction.is

pub returns-in-BranchRight : goal.returns-in-BranchRight
unfolding giving
returns-in-BranchRight c = rw c.in-BranchRight.is
