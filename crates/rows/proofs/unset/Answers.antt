-- `rows::unset` meets its contract: word t div 64 loses bit t mod 64, and every other bit of the row stays.
-- Assumes nothing.
use Rattle.rows.proofs.Rows.{put_none}
use Rattle.rows.proofs.unset.Goals as goal

pub returns : goal.returns
returns c = put_none _ _ _ _ c.requires c.without_bit.ensures
