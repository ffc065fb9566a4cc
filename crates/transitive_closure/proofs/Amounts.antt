-- How many numbers below n pass a test: fewer, where one of them no longer does and none is new.
-- Assumes nothing.
use mathlib.Core.Path.{◌≡◌, refl}
use mathlib.Core.Bool.{Bool, true, false, cond, false≢true}
use mathlib.Core.Logic.{⊎_elim}
use Prim.Native.Nat.{ℕ, zero, suc, ◌≤◌, ◌<◌}
use native.Mathlib.Nat.{eq-or-lt_of_le}
use native.Mathlib.Omega.{arith}
use Rattle.transitive_closure.specs.Finishing.{amount}

pub amount_le : (f : ℕ → Bool) (n : ℕ) → amount f n ≤ n
unfolding amount
amount_le f zero = omega arith
amount_le f (suc n) = go (f n) (amount_le f n)
  where
    go : (b : Bool) → amount f n ≤ n → cond b (suc (amount f n)) (amount f n) ≤ suc n
    go true h = omega arith
    go false h = omega arith

module _ (f g : ℕ → Bool) where
  pub amount_fewer : (n : ℕ) → ((t : ℕ) → t < n → g t ≡ true → f t ≡ true) → amount g n ≤ amount f n
  unfolding amount
  amount_fewer zero h = omega arith
  amount_fewer (suc n) h = go (f n) (g n) (h n (omega arith)) (amount_fewer n (λ t l. h t (omega arith)))
    where
      go : (x y : Bool) → (y ≡ true → x ≡ true) → amount g n ≤ amount f n → cond y (suc (amount g n)) (amount g n) ≤ cond x (suc (amount f n)) (amount f n)
      go true true e l = omega arith
      go true false e l = omega arith
      go false true e l = absurd (false≢true (e refl))
      go false false e l = l

  pub amount_less : (n k : ℕ) → ((t : ℕ) → t < n → g t ≡ true → f t ≡ true) → k < n → f k ≡ true → g k ≡ false → amount g n < amount f n
  unfolding amount
  amount_less zero k h l on off = absurd (omega arith)
  amount_less (suc n) k h l on off =
      ⊎_elim (λ (q : k ≡ n). last (rw q at on) (rw q at off) (amount_fewer n (λ t m. h t (omega arith))))
      (λ (q : k < n). go (f n) (g n) (h n (omega arith)) (amount_less n k (λ t m. h t (omega arith)) q on off))
      (eq-or-lt_of_le (omega arith))
    where
      last : f n ≡ true → g n ≡ false → amount g n ≤ amount f n → cond (g n) (suc (amount g n)) (amount g n) < cond (f n) (suc (amount f n)) (amount f n)
      last u v m = rw (u, v) (omega arith)

      go : (x y : Bool) → (y ≡ true → x ≡ true) → amount g n < amount f n → cond y (suc (amount g n)) (amount g n) < cond x (suc (amount f n)) (amount f n)
      go true true e l = omega arith
      go true false e l = omega arith
      go false true e l = absurd (false≢true (e refl))
      go false false e l = l
