-- `rules::op_rule` meets its contract: each operator has its rule: union copies both parts, the others make a triple of each pair that fits.
-- Assumes nothing.
use Rattle.rules.specs.PairRules.{of_two}
use Rattle.rules.proofs.op_rule.Goals as goal

pub returns-in-Union : goal.returns-in-Union
returns-in-Union c = rw c.in-Union.is c.union_rule.ensures

pub returns-in-Conjunction : goal.returns-in-Conjunction
unfolding of_two
returns-in-Conjunction c = rw c.in-Conjunction.is c.pair_rule.ensures

pub returns-in-BranchRight : goal.returns-in-BranchRight
unfolding of_two
returns-in-BranchRight c = rw c.in-BranchRight.is c.pair_rule-in-BranchRight.ensures

pub returns-in-BranchLeft : goal.returns-in-BranchLeft
unfolding of_two
returns-in-BranchLeft c = rw c.in-BranchLeft.is c.pair_rule-in-BranchLeft.ensures
