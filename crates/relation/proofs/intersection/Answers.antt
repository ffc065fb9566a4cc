-- `relation::intersection` meets its contract: the words of both relations are intersected as two rows.
-- Assumes nothing.
use Rattle.relation.proofs.Combining.{both_whole}
use mathlib.Core.Bool.{◌&&◌}
use Rattle.relation.proofs.intersection.Goals as goal

pub returns : goal.returns
returns c = both_whole ◌&&◌ c.args.q c.merge_within.ensures
