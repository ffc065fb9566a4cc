-- `evaluation::add_links` meets its contract: the relation with the pairs of the links still to come is always the one that is due, and each link joins two of the n records.
-- Assumes nothing.
use Rattle.evaluation.proofs.Links.{passing_start}
use Rattle.evaluation.proofs.Grounds.{grounded}
use Rattle.evaluation.proofs.add_links.Goals as goal

pub loop-e-init : goal.loop-e-init
loop-e-init c = rw c.into_iter-e-iterator.ensures.into_iter_gives (passing_start _ _ _ (grounded c.args.ground.now) c.links-e-items.ensures.all)
