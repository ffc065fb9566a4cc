-- `bits::lowest` meets its contract: the count of trailing zeros of a word that is not 0 is the number of its lowest bit.
-- Assumes nothing.
use native.Mathlib.Omega.{arith}
use lib.Count.{trailing_le}
use Rattle.bits.proofs.TrailingZeros.{trailing_lowest}
use Rattle.bits.proofs.lowest.Goals as goal

pub overflow_cast-result : goal.overflow_cast-result
overflow_cast-result c = omega (arith, trailing_le 64 c.args.w)

pub returns : goal.returns
returns c = trailing_lowest 64 c.args.w c.ranges.w.fits c.requires
