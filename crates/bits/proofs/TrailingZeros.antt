-- The count of trailing zeros of a word that is not 0 is its lowest bit.
-- Assumes nothing.
use mathlib.Core.Path.{◌≡◌, refl, ◌∙◌}
use mathlib.Core.Bool.{false}
use Prim.Native.Nat.{ℕ, zero, suc, ◌/◌, ◌%◌, ◌^◌, ◌<◌}
use native.Mathlib.Nat.{pow-suc}
use native.Mathlib.Omega.{arith}
use lib.Count.{count_trailing_zeros, under}
use Rattle.bits.specs.Bit.{bit_of, Lowest}
use Rattle.bits.proofs.Bits.{digit_ind, digit, bit_low_one, bit_low_zero, bit_suc}

pub trailing_lowest : (w x : ℕ) → x < 2 ^ w → (x ≡ 0 → ⊥) → Lowest w x (count_trailing_zeros w x)
unfolding count_trailing_zeros
trailing_lowest zero x h n = absurd (n (omega arith))
trailing_lowest (suc w) x h n =
    let p = pow-suc 2 w in
    digit_ind (λ (d : ℕ). x % 2 ≡ d → Lowest (suc w) x (under d (count_trailing_zeros w (x / 2))))
    (λ e. up (trailing_lowest w (x / 2) (omega arith) (λ z. n (omega arith))) e)
    (λ e. record { small = omega arith; here = bit_low_one x e; below = λ i l. absurd (omega arith) })
    (x % 2) (digit x) refl
  where
    none_below : {r : ℕ} → Lowest w (x / 2) r → x % 2 ≡ 0 → (i : ℕ) → i < suc r → bit_of x i ≡ false
    none_below l e zero h = bit_low_zero x e
    none_below l e (suc i) h = bit_suc x i ∙ l.below i (omega arith)

    up : {r : ℕ} → Lowest w (x / 2) r → x % 2 ≡ 0 → Lowest (suc w) x (suc r)
    up {r} l e = record { small = omega (arith, l.small); here = bit_suc x r ∙ l.here; below = none_below l e }
