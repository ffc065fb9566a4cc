-- `relation::set_pair` meets its contract: bit t of row s is set, and every other bit of the relation is as it was.
-- Assumes nothing.
use native.Mathlib.Omega.{arith}
use Rattle.relation.proofs.Pair.{made_pair}
use Rattle.relation.proofs.set_pair.Goals as goal

pub returns : goal.returns
returns c = made_pair c.args.t (c.set.ensures c.args.w (omega arith)) c.requires.2
