-- A number as a set of bits, of any width. proofs/Bits.antt has the laws.
-- Assumes nothing.
use Rattle.std.specs.Prelude.{◌≡◌, Bool, true, false, ℕ, ◌/◌, ◌%◌, ◌^◌, ◌<◌, eqb}
use Rattle.std.specs.Int.Bits.{bit_or, bit_and, bit_xor}

-- bit k of x
unfoldable pub bit_of : ℕ → ℕ → Bool
bit_of x k = eqb (x / 2 ^ k % 2) 1

-- x with bit k set too
unfoldable pub with_bit : ℕ → ℕ → ℕ
with_bit x k = bit_or x (2 ^ k)

-- x without the bits of y
unfoldable pub without : ℕ → ℕ → ℕ
without x y = bit_and x (bit_xor x y)

-- r is the lowest bit that is set, in a word of w bits
pub record Lowest (w x r : ℕ) : Type 0 where
  pub small : r < w
  pub here : bit_of x r ≡ true
  pub below : (i : ℕ) → i < r → bit_of x i ≡ false
