-- `relation::branch_right` meets its contract: the mask has the records from which the other relation leads, and the pairs to a record of the mask are kept.
-- Assumes nothing.
use Rattle.relation.proofs.Branches.{branched}
use Rattle.relation.proofs.branch_right.Goals as goal

pub returns : goal.returns
returns c = branched c.args.q c.requires.4 c.sources.ensures c.keep_targets.ensures
