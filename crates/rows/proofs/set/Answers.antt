-- `rows::set` meets its contract: word t div 64 gains bit t mod 64, and no other bit of the row is in that place.
-- Assumes nothing.
use Rattle.rows.proofs.Rows.{put_bit}
use Rattle.rows.proofs.set.Goals as goal

pub returns : goal.returns
returns c = put_bit _ _ _ _ c.requires c.with_bit.ensures
