-- `Sheet::permits` meets its contract: the bit of the to kind, in the word of the from kind and the link, is the table's test.
-- Assumes nothing.
use Rattle.sheet.specs.Table.{tabled?}
use Rattle.sheet.proofs.Sheet.permits.Goals as goal

pub returns : goal.returns
unfolding tabled?
returns c = rw (← c.leads_to.ensures, ← c.from.ensures) c.bit.ensures
