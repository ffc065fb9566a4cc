-- `register::past` meets its contract: the links passed over come right after the kinds passed over.
-- Assumes nothing.
use Rattle.register.proofs.Passing.{passed_on, passed_both}
use Rattle.register.proofs.past.Goals as goal

pub past_links-requires : goal.past_links-requires
past_links-requires c = (passed_on _ _ c.past_kinds.ensures c.requires).1

pub returns : goal.returns
returns c = passed_both _ _ c.past_kinds.ensures c.past_links.ensures
