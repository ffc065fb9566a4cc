-- `bits::bit` meets its contract: the definition, read off the code.
-- Assumes nothing.
use mathlib.Core.Path.{refl}
use Rattle.bits.specs.Bit.{bit_of}
use Rattle.bits.proofs.bit.Goals as goal

pub returns : goal.returns
unfolding bit_of
returns c = refl
