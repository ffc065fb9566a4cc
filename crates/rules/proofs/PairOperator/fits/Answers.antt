-- `rules::PairOperator::fits` meets its contract: the operator both needs equal ends, branch left equal from kinds, join and branch right an end that meets a start.
-- Assumes nothing.
use mathlib.Core.Logic.{inl, inr}
use mathlib.Core.Path.{sym, ◌∙◌}
use Rattle.rules.specs.PairRules.{fitting}
use Rattle.rules.proofs.PairOperator.fits.Goals as goal

pub returns-in-Join : goal.returns-in-Join
unfolding fitting
returns-in-Join c = elim c.in-Join.is [ inl e ↦ rw e c.eq.ensures | inr e ↦ rw e c.eq.ensures ]

pub returns-then-eq : goal.returns-then-eq
unfolding fitting
returns-then-eq c = rw (c.in-Conjunction.is, sym c.eq-in-Conjunction.ensures ∙ c.if-eq.true) c.eq-then-eq.ensures

pub returns-else-eq : goal.returns-else-eq
unfolding fitting
returns-else-eq c = rw (c.in-Conjunction.is, sym c.eq-in-Conjunction.ensures ∙ c.if-eq.false) c.if-eq.false

pub returns-in-BranchLeft : goal.returns-in-BranchLeft
unfolding fitting
returns-in-BranchLeft c = rw c.in-BranchLeft.is c.eq-in-BranchLeft.ensures
