-- The laws of a bit, over any width.
-- Assumes nothing.
use mathlib.Core.Path.{◌≡◌, refl, sym, ap, ◌∙◌}
use mathlib.Core.Bool.{true, false, ◌&&◌, ◌||◌, not, true≢false, false≢true}
use Prim.Native.Nat.{ℕ, zero, suc, ◌+◌, ◌*◌, ◌/◌, ◌%◌, ◌^◌, ◌<◌, ◌≤◌, ◌-◌}
use native.Mathlib.Nat.{zero-div, div-one, pow-suc, one-mul, div-eq_of_lt, lt_of_lt_of_le}
use native.Mathlib.Omega.{arith}
use native.Mathlib.Numerals.{one-add}
use lib.Dec.{eqb, eqb-suc-zero, eqb-zero-suc, eqb-suc-suc}
use lib.Bits.{bit_or, bit_and, bit_xor, or_shr, or_mod, and_shr, and_mod, xor_shr, xor_mod, shifted_half, shifted_even}
use lib.Pow.{pow_pos, pow_mono, shl_exact, shr-shr}
use Rattle.bits.specs.Bit.{bit_of, with_bit, without}

-- what holds of 0 and of 1 holds of each digit
pub digit_ind : (P : ℕ → Type 0) → P 0 → P 1 → (n : ℕ) → n < 2 → P n
digit_ind P p q zero h = p
digit_ind P p q (suc zero) h = q
digit_ind P p q (suc (suc n)) h = absurd (omega arith)

pub digit : (x : ℕ) → x % 2 < 2
digit x = omega arith

-- ---- of one word
pub bit_zero : (k : ℕ) → bit_of 0 k ≡ false
unfolding bit_of
bit_zero k = rw zero-div

pub bit_low_one : (x : ℕ) → x % 2 ≡ 1 → bit_of x 0 ≡ true
unfolding bit_of
bit_low_one x e = rw (div-one, e)

pub bit_low_zero : (x : ℕ) → x % 2 ≡ 0 → bit_of x 0 ≡ false
unfolding bit_of
bit_low_zero x e = rw (div-one, e)

pub bit_suc : (x k : ℕ) → bit_of x (suc k) ≡ bit_of (x / 2) k
unfolding bit_of
bit_suc x k = rw (shr-shr x 1 k, one-add k)

-- bit k of a number that has bit j alone
pub bit_pow : (j k : ℕ) → bit_of (2 ^ j) k ≡ eqb k j
bit_pow j k = rw (← one-mul (2 ^ j)) (shifted j k)
  where
    shifted : (j k : ℕ) → bit_of (1 * 2 ^ j) k ≡ eqb k j
    shifted zero zero = bit_low_one (1 * 2 ^ 0) refl
    shifted zero (suc k) = bit_suc 1 k ∙ bit_zero k ∙ sym (eqb-suc-zero k)
    shifted (suc j) zero = bit_low_zero (1 * 2 ^ suc j) (shifted_even 1 j) ∙ sym (eqb-zero-suc j)
    shifted (suc j) (suc k) = bit_suc (1 * 2 ^ suc j) k ∙ rw (shifted_half 1 j, eqb-suc-suc) (shifted j k)

-- `1 << j` at w bits, as the machine has it
pub shl_one : (j w : ℕ) → j < w → (1 * 2 ^ j) % 2 ^ w ≡ 2 ^ j
shl_one j w h = shl_exact {a = 1} 1 j w (omega arith) (omega arith) ∙ one-mul (2 ^ j)

pub bit_shr : (x p k : ℕ) → bit_of (x / 2 ^ p) k ≡ bit_of x (p + k)
unfolding bit_of
bit_shr x p k = rw (shr-shr x p k)

-- bits past the width are not set
pub bit_high : (w x k : ℕ) → x < 2 ^ w → w ≤ k → bit_of x k ≡ false
unfolding bit_of
bit_high w x k h l = rw (div-eq_of_lt (lt_of_lt_of_le h (pow_mono l)))

-- a word of ones
pub bit_full : (w k : ℕ) → k < w → bit_of (2 ^ w - 1) k ≡ true
bit_full zero k h = absurd (omega arith)
bit_full (suc w) zero h = let p = pow-suc 2 w in let q = pow_pos w in bit_low_one (2 ^ suc w - 1) (omega arith)
bit_full (suc w) (suc k) h =
    let p = pow-suc 2 w in
    let q = pow_pos w in
    let e : (2 ^ suc w - 1) / 2 ≡ 2 ^ w - 1 = omega arith in
    bit_suc (2 ^ suc w - 1) k ∙ ap (λ (x : ℕ). bit_of x k) e ∙ bit_full w k (omega arith)

-- a word that is not 0 has a bit
pub some_bit : (w x : ℕ) → x < 2 ^ w → (x ≡ 0 → ⊥) → (k : ℕ) × (k < w) × (bit_of x k ≡ true)
some_bit zero x h n = absurd (n (omega arith))
some_bit (suc w) x h n =
    let p = pow-suc 2 w in
    digit_ind (λ (d : ℕ). x % 2 ≡ d → (k : ℕ) × (k < suc w) × (bit_of x k ≡ true))
    (λ e. let r = some_bit w (x / 2) (omega arith) (λ z. n (omega arith)) in (suc r.0, omega (arith, r.1), bit_suc x r.0 ∙ r.2))
    (λ e. (0, omega arith, bit_low_one x e))
    (x % 2) (digit x) refl

-- ---- of two words
or_digit : (a b : ℕ) → a < 2 → b < 2 → eqb (bit_or a b) 1 ≡ eqb a 1 || eqb b 1
or_digit a b ha hb =
    digit_ind (λ (n : ℕ). eqb (bit_or n b) 1 ≡ eqb n 1 || eqb b 1) refl
    (digit_ind (λ (n : ℕ). eqb (bit_or 1 n) 1 ≡ true) refl refl b hb) a ha

pub bit_of_or : (a b k : ℕ) → bit_of (bit_or a b) k ≡ bit_of a k || bit_of b k
unfolding bit_of
bit_of_or a b k = rw (or_shr, or_mod (a / 2 ^ k) (b / 2 ^ k) 1) (or_digit (a / 2 ^ k % 2) (b / 2 ^ k % 2) (digit (a / 2 ^ k)) (digit (b / 2 ^ k)))

and_digit : (a b : ℕ) → a < 2 → b < 2 → eqb (bit_and a b) 1 ≡ eqb a 1 && eqb b 1
and_digit a b ha hb =
    digit_ind (λ (n : ℕ). eqb (bit_and n b) 1 ≡ eqb n 1 && eqb b 1) refl
    (digit_ind (λ (n : ℕ). eqb (bit_and 1 n) 1 ≡ eqb n 1) refl refl b hb) a ha

pub bit_of_and : (a b k : ℕ) → bit_of (bit_and a b) k ≡ bit_of a k && bit_of b k
unfolding bit_of
bit_of_and a b k = rw (and_shr, and_mod (a / 2 ^ k) (b / 2 ^ k) 1) (and_digit (a / 2 ^ k % 2) (b / 2 ^ k % 2) (digit (a / 2 ^ k)) (digit (b / 2 ^ k)))

pub bit_with : (x j k : ℕ) → bit_of (with_bit x j) k ≡ bit_of x k || eqb k j
unfolding with_bit
bit_with x j k = rw (bit_of_or, bit_pow)

without_digit : (a b : ℕ) → a < 2 → b < 2 → eqb (bit_and a (bit_xor a b)) 1 ≡ eqb a 1 && not (eqb b 1)
without_digit a b ha hb =
    digit_ind (λ (n : ℕ). eqb (bit_and n (bit_xor n b)) 1 ≡ eqb n 1 && not (eqb b 1)) refl
    (digit_ind (λ (n : ℕ). eqb (bit_and 1 (bit_xor 1 n)) 1 ≡ not (eqb n 1)) refl refl b hb) a ha

pub bit_without : (a b k : ℕ) → bit_of (without a b) k ≡ bit_of a k && not (bit_of b k)
unfolding bit_of without
bit_without a b k =
    rw (and_shr, xor_shr, and_mod (a / 2 ^ k) (bit_xor (a / 2 ^ k) (b / 2 ^ k)) 1, xor_mod (a / 2 ^ k) (b / 2 ^ k) 1)
    (without_digit (a / 2 ^ k % 2) (b / 2 ^ k % 2) (digit (a / 2 ^ k)) (digit (b / 2 ^ k)))

eq_digit : (a b : ℕ) → a < 2 → b < 2 → eqb a 1 ≡ eqb b 1 → a ≡ b
eq_digit a b ha hb =
    digit_ind (λ (n : ℕ). eqb n 1 ≡ eqb b 1 → n ≡ b)
    (digit_ind (λ (n : ℕ). eqb 0 1 ≡ eqb n 1 → 0 ≡ n) (λ e. refl) (λ e. absurd (false≢true e)) b hb)
    (digit_ind (λ (n : ℕ). eqb 1 1 ≡ eqb n 1 → 1 ≡ n) (λ e. absurd (true≢false e)) (λ e. refl) b hb) a ha

bit_low : (x y : ℕ) → bit_of x 0 ≡ bit_of y 0 → x % 2 ≡ y % 2
unfolding bit_of
bit_low x y e = eq_digit (x % 2) (y % 2) (digit x) (digit y) (rw (div-one x, div-one y) at e)

-- words of equal bits are equal
pub bit_ext : (w x y : ℕ) → x < 2 ^ w → y < 2 ^ w → ((k : ℕ) → k < w → bit_of x k ≡ bit_of y k) → x ≡ y
bit_ext zero x y hx hy e = omega arith
bit_ext (suc w) x y hx hy e =
    let p = pow-suc 2 w in
    let h : x / 2 ≡ y / 2 = bit_ext w (x / 2) (y / 2) (omega arith) (omega arith) (λ k l. sym (bit_suc x k) ∙ e (suc k) (omega arith) ∙ bit_suc y k) in
    omega (arith, bit_low x y (e 0 (omega arith)))
