-- The numbers below n, and those of them that pass a test, as std's chains give them.
-- Assumes nothing.
use mathlib.Core.Path.{◌≡◌, refl, ap, ◌∙◌}
use mathlib.Core.Bool.{Bool, cond}
use mathlib.Core.List.{List, [], ◌∷◌}
use Prim.Native.Nat.{ℕ, zero, suc, ◌+◌, ◌≤◌}
use native.Mathlib.Numerals.{add-one}
use native.Mathlib.Nat.{zero-add}
use native.Mathlib.Omega.{arith}
use lib.ListN.{length, length-append}
use Rattle.std.specs.List.{sum_by, fold, range_with_len, filter as passing}
use Rattle.std.proofs.lemmas.List.Sums.{length-filter, count_by-le-length}
use Rattle.std.proofs.lemmas.List.FromFn.{length-range_with_len}
use Rattle.theory.specs.Lists.{filter, concat_map, tabulate, range}

numbers : (a n : ℕ) → range_with_len a n ≡ tabulate (λ k. k) a n
numbers a zero = refl
numbers a (suc n) = ap (λ (xs : List ℕ). a ∷ xs) (ap (λ (b : ℕ). range_with_len b n) (add-one a) ∙ numbers (suc a) n)

passed : (f : ℕ → Bool) (xs : List ℕ) → passing f xs ≡ filter f xs
passed f [] = refl
passed f (x ∷ xs) = ap (λ (r : List ℕ). cond (f x) (x ∷ r) r) (passed f xs)

pub passed_below : (f : ℕ → Bool) (n : ℕ) → passing f (range_with_len 0 n) ≡ filter f (range n)
passed_below f n = ap (passing f) (numbers 0 n) ∙ passed f (range n)

pub passed_most : (f : ℕ → Bool) (n : ℕ) → length (filter f (range n)) ≤ n
passed_most f n =
    omega (arith, ap length (passed_below f n), length-filter f (range_with_len 0 n), count_by-le-length f (range_with_len 0 n), length-range_with_len 0 n)

-- a sum of lengths is the length of the lists joined
summed : (g : ℕ → List ℕ) (k : ℕ) (xs : List ℕ) → fold (λ a x. a + length (g x)) k xs ≡ k + length (concat_map g xs)
summed g k [] = omega arith
summed g k (x ∷ xs) = omega (arith, summed g (k + length (g x)) xs, length-append (g x) (concat_map g xs))

pub summed_below : (g : ℕ → List ℕ) (n : ℕ) → sum_by (λ x. length (g x)) (range_with_len 0 n) ≡ length (concat_map g (range n))
summed_below g n = ap (sum_by (λ x. length (g x))) (numbers 0 n) ∙ summed g 0 (range n) ∙ zero-add _
