-- `inference::origin` meets its contract: a step is a symbol alone; an operator's symbols begin with those of its first operand.
-- Assumes nothing.
use mathlib.Core.Logic.{inl, inr}
use Rattle.inference.proofs.origin.Goals as goal

pub returns-in-Step : goal.returns-in-Step
returns-in-Step c = rw c.in-Step.is

pub returns-in-Join : goal.returns-in-Join
returns-in-Join c = elim c.in-Join.is [ inl e ↦ rw e.1 | inr d ↦ elim d [ inl e ↦ rw e.1 | inr e ↦ rw e ] ]
