-- `rows::has` meets its contract: bit t of a row is defined as bit t mod 64 of its word t div 64.
-- Assumes nothing.
use Rattle.rows.specs.Row.{row_bit}
use Rattle.rows.proofs.has.Goals as goal

pub returns : goal.returns
unfolding row_bit
returns c = c.bit.ensures
