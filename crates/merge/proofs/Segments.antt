-- Elements of an array as a list: the first, a store, what was written.
-- Assumes nothing.
use mathlib.Core.Path.{◌≡◌, sym, ap, ap₂, ◌∙◌}
use mathlib.Core.List.{List, [], ◌∷◌, ◌++◌}
use Prim.Native.Nat.{ℕ, zero, suc, ◌+◌, ◌-◌, ◌<◌, ◌≤◌}
use native.Mathlib.Nat.{add-zero, add-suc, suc-add, zero-add}
use native.Mathlib.Omega.{arith}
use lib.ListN.{length, get_or, set, take, drop, get_or-append}
use lib.Seq.{sets, sets-eq, ext_get_or, get_or-set_same, get_or-set_other, get_or-take, length-take-le}
use Rattle.theory.specs.Lists.{tabulate}
use Rattle.theory.proofs.Lists.{tabulate_at, length_tabulate, tabulate_same, tabulate_next}
use Rattle.merge.specs.Arrays.{segment}

module _ {A : Type 0} where
  tabulate_append : (f : ℕ → A) (s a b : ℕ) → tabulate f s (a + b) ≡ tabulate f s a ++ tabulate f (s + a) b
  tabulate_append f s zero b = rw (zero-add b, add-zero s)
  tabulate_append f s (suc a) b = rw (suc-add a b, add-suc s a, ← suc-add s a) (ap (λ xs. f s ∷ xs) (tabulate_append f (suc s) a b))

pub segment_next : (a : List ℕ) (k n : ℕ) → k < n → segment a k n ≡ get_or a k 0 ∷ segment a (k + 1) n
unfolding segment
segment_next a k n h = tabulate_next (λ i. get_or a i 0) k n h

pub segment_end : (a : List ℕ) (k n : ℕ) → n ≤ k → segment a k n ≡ []
unfolding segment
segment_end a k n h = let q : n - k ≡ 0 = omega arith in rw q

pub length_segment : (a : List ℕ) (k n : ℕ) → length (segment a k n) ≡ n - k
unfolding segment
length_segment a k n = length_tabulate (λ i. get_or a i 0) k (n - k)

-- what was written at the front is there
pub segment_wrote : (l cs : List ℕ) → length cs ≤ length l → segment (sets l 0 cs) 0 (length cs) ≡ cs
unfolding segment
segment_wrote l cs h =
    ext_get_or 0 (tabulate (λ i. get_or (sets l 0 cs) i 0) 0 (length cs - 0)) cs (length_tabulate (λ i. get_or (sets l 0 cs) i 0) 0 (length cs - 0) ∙ omega arith)
    (λ i m. let z : i < length cs - 0 = omega (arith, length_tabulate (λ i. get_or (sets l 0 cs) i 0) 0 (length cs - 0)) in
    tabulate_at (λ i. get_or (sets l 0 cs) i 0) 0 (length cs - 0) i 0 z ∙ rw (zero-add i) (at i (omega arith)))
  where
    at : (i : ℕ) → i < length cs → get_or (sets l 0 cs) i 0 ≡ get_or cs i 0
    at i m = rw (sets-eq cs l 0 (omega arith)) (get_or-append cs (drop (0 + length cs) l) 0 i m)

pub segment_same : (a b : List ℕ) (p q : ℕ) → ((j : ℕ) → p ≤ j → j < q → get_or a j 0 ≡ get_or b j 0) → segment a p q ≡ segment b p q
unfolding segment
segment_same a b p q e = tabulate_same (λ (j : ℕ). get_or a j 0) (λ (j : ℕ). get_or b j 0) p (q - p) (λ k l m. e k l (omega arith))

-- the front of an array
pub segment_take : (a : List ℕ) (n : ℕ) → n ≤ length a → segment a 0 n ≡ take n a
unfolding segment
segment_take a n h =
    ext_get_or 0 (tabulate (λ i. get_or a i 0) 0 (n - 0)) (take n a) (length_tabulate (λ i. get_or a i 0) 0 (n - 0) ∙ omega (arith, length-take-le n a h))
    (λ i m. let z : i < n - 0 = omega (arith, length_tabulate (λ i. get_or a i 0) 0 (n - 0)) in
    tabulate_at (λ i. get_or a i 0) 0 (n - 0) i 0 z ∙ rw (zero-add i) (sym (get_or-take n a i 0 (omega arith))))

pub segment_taken : (a : List ℕ) (n : ℕ) → n ≤ length a → segment (take n a) 0 n ≡ segment a 0 n
segment_taken a n h = segment_same (take n a) a 0 n (λ j x y. get_or-take n a j 0 y)

-- ---- a store
segment_append : (a : List ℕ) (i k n : ℕ) → i ≤ k → k ≤ n → segment a i n ≡ segment a i k ++ segment a k n
unfolding segment
segment_append a i k n h l =
    let x : n - i ≡ (k - i) + (n - k) = omega arith in
    let y : i + (k - i) ≡ k = omega arith in
    rw x (tabulate_append (λ (j : ℕ). get_or a j 0) i (k - i) (n - k) ∙ rw y)

pub segment_set : (a : List ℕ) (i k n v : ℕ) → i ≤ k → k < n → k < length a → segment (set a k v) i n ≡ segment a i k ++ (v ∷ segment a (k + 1) n)
segment_set a i k n v h l m =
    segment_append (set a k v) i k n h (omega arith)
    ∙ ap₂ ◌++◌ (segment_same (set a k v) a i k (λ j x y. get_or-set_other a k j v 0 (omega arith)))
    (segment_next (set a k v) k n l ∙ ap₂ {C = List ℕ} (λ x xs. x ∷ xs) (get_or-set_same a k v 0 m) (segment_same (set a k v) a (k + 1) n (λ j x y. get_or-set_other a k j v 0 (omega arith))))
