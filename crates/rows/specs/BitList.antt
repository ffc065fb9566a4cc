-- The bits of a word as a list of numbers.
-- Assumes nothing.
use Rattle.std.specs.Prelude.{List, ℕ}
use Rattle.theory.specs.Lists.{filter, range}
use Rattle.bits.specs.Bit.{bit_of}

-- the bits that v has, the lowest first
unfoldable pub ones : ℕ → List ℕ
ones v = filter (bit_of v) (range 64)
