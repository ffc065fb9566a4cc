-- The larger of the two needs.
-- Assumes nothing.
use mathlib.Core.Path.{◌≡◌, refl}
use mathlib.Core.Bool.{Bool, true, false, cond}
use Rattle.std.specs.Prelude.{max}
use Prim.Native.Nat.{ℕ, ◌<◌, ◌≤◌}
use native.Mathlib.Omega.{arith}
use lib.Dec.{ltb}
use borrow.Author.Tests.{lt-ltb, le-ltb, ltb-true, ltb-false}
use Rattle.narrowing.specs.Call.{narrow_need}
use Rattle.job.specs.Call.{larger}

module _ (a b : ℕ) where
  pub larger_right : a < b → larger a b ≡ b
  unfolding larger
  larger_right l = rw (lt-ltb a b l)

  pub larger_left : b ≤ a → larger a b ≡ a
  unfolding larger
  larger_left l = rw (le-ltb a b l)

  -- it is as large as either
  pub larger_both : (a ≤ larger a b) × (b ≤ larger a b)
  unfolding larger
  larger_both = by_test (ltb a b) refl
    where
      by_test : (t : Bool) → ltb a b ≡ t → (a ≤ cond (ltb a b) b a) × (b ≤ cond (ltb a b) b a)
      by_test true e = let l = ltb-true a b e in rw e (omega arith, omega arith)
      by_test false e = let l = ltb-false a b e in rw e (omega arith, omega arith)

-- as the code finds it
pub need_is : (n : ℕ) {m : ℕ} → m ≡ max 8192 n → m ≡ larger narrow_need n
unfolding narrow_need
need_is n {m} e = by_test (ltb 8192 n) refl
  where
    by_test : (t : Bool) → ltb 8192 n ≡ t → m ≡ larger 8192 n
    by_test true h = let l = ltb-true 8192 n h in rw (larger_right 8192 n l) (omega (arith, e, l))
    by_test false h = let l = ltb-false 8192 n h in rw (larger_left 8192 n l) (omega (arith, e, l))
