-- `bits::without_bit` meets its contract: 1 shifted by less than the width keeps its bit.
-- Assumes nothing.
use Rattle.bits.specs.Bit.{without}
use Rattle.bits.proofs.Bits.{shl_one}
use Rattle.bits.proofs.without_bit.Goals as goal

pub returns : goal.returns
unfolding without
returns c = rw (shl_one c.args.k 64 c.requires)
