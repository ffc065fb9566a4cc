-- A kind's bit of a set, moved to a record's place in a word.
-- Assumes nothing.
use mathlib.Core.Path.{◌≡◌, ap, ◌∙◌}
use mathlib.Core.Bool.{◌&&◌}
use Prim.Native.Nat.{ℕ, ◌*◌, ◌/◌, ◌%◌, ◌^◌, ◌<◌}
use native.Mathlib.Nat.{zero-mul}
use lib.Dec.{eqb}
use Rattle.bits.specs.Bit.{bit_of}
use Rattle.bits.proofs.Bits.{digit_ind, digit, bit_zero, bit_pow, shl_one}
use Rattle.theory.specs.KindSet.{has}

-- a digit moved to place t
moved : (d t i : ℕ) → d < 2 → t < 64 → bit_of (d * 2 ^ t % 2 ^ 64) i ≡ eqb d 1 && eqb i t
moved d t i h l =
    digit_ind (λ (d : ℕ). bit_of (d * 2 ^ t % 2 ^ 64) i ≡ eqb d 1 && eqb i t)
    (ap (λ (x : ℕ). bit_of (x % 2 ^ 64) i) (zero-mul (2 ^ t)) ∙ bit_zero i)
    (ap (λ (x : ℕ). bit_of x i) (shl_one t 64 l) ∙ bit_pow t i)
    d h

pub kind_moved : {k j : ℕ} (m t y : ℕ) → k ≡ j → j ≡ y → t < 64 → (i : ℕ) → bit_of (m / 2 ^ k % 2 * 2 ^ t % 2 ^ 64) i ≡ has m y && eqb i t
unfolding has bit_of
kind_moved {k} m t y e f l i = moved (m / 2 ^ k % 2) t i (digit (m / 2 ^ k)) l ∙ ap (λ (x : ℕ). bit_of m x && eqb i t) (e ∙ f)
