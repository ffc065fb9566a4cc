-- Kind sets. SPECIFICATION, Files in general: a number of 64 bits in which kind k has the value 2^k.
-- All else uses a set only through `has`, `singleton` and `set_union`, so that the width stands here alone.
-- Assumes nothing.
use Rattle.std.specs.Prelude.{Bool, ℕ, ◌^◌, ◌<◌}
use Rattle.std.specs.Int.Bits.{bit_or}
use Rattle.bits.specs.Bit.{bit_of}

-- the number of bits in a set, and so of kinds
abbrev pub width : ℕ
width = 64

unfoldable pub has : ℕ → ℕ → Bool
has m k = bit_of m k

unfoldable pub singleton : ℕ → ℕ
singleton k = 2 ^ k

unfoldable pub set_union : ℕ → ℕ → ℕ
set_union a b = bit_or a b

-- a number that is a kind set
abbrev pub IsSet : ℕ → Type 0
IsSet m = m < 2 ^ width
