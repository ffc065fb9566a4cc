-- A word that loses the bits of another one.
-- Assumes nothing.
use Rattle.std.specs.Prelude.{◌≡◌, ◌&&◌, not, ℕ}
use Rattle.std.specs.Int.Bits.{bit_and, bit_xor}
use Rattle.bits.specs.Bit.{bit_of, without}
use Rattle.bits.proofs.Bits.{bit_without}

pub excluded_bits : (x y k : ℕ) → bit_of (bit_and x (bit_xor x y)) k ≡ bit_of x k && not (bit_of y k)
unfolding without
excluded_bits x y k = bit_without x y k
