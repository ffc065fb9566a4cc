-- `inference::rule` meets its contract: the symbol says which rule it is, and the triples of that rule over the two parts are those of the symbol.
-- Assumes nothing.
use Rattle.rules.specs.PairRules.{of_two}
use Rattle.inference.proofs.rule.Goals as goal

pub returns-in-Step : goal.returns-in-Step
returns-in-Step c = rw c.in-Step.is c.step_rule.ensures

pub returns-in-Join : goal.returns-in-Join
unfolding of_two
returns-in-Join c = rw c.in-Join.is c.pair_rule.ensures

pub returns-in-Op : goal.returns-in-Op
returns-in-Op c = rw c.in-Op.is c.op_rule.ensures

pub returns-in-Closure : goal.returns-in-Closure
returns-in-Closure c = rw c.in-Closure.is c.closure_rule.ensures
