-- The codes of two members, compared as far as the shorter one goes.
-- Assumes nothing.
use mathlib.Core.Path.{◌≡◌, refl, ap₂, ◌∙◌, sym}
use mathlib.Core.Bool.{Bool, true, false, ◌&&◌, ◌||◌}
use mathlib.Core.List.{List, [], ◌∷◌, map}
use Prim.Native.Nat.{ℕ, zero, suc, ◌+◌, ◌<◌, min}
use native.Mathlib.Numerals.{add-one}
use Prim.Native.Nat.compare
use native.Mathlib.Omega.{arith}
use borrow.Author.Tests.{lt-ltb, le-ltb, eq-eqb, ne_eqb}
use lib.Dec.{ltb, eqb}
use lib.ListN.{length, get_or, drop}
use lib.Seq.{drop-cons}
use Rattle.theory.specs.PathExpr.{before?}
use Rattle.symbols.specs.Symbols.{order_code}

-- the n-th codes, and what they decide
module _ (a b : List ℕ) (n : ℕ) (ha : n < length a) (hb : n < length b) {u v : ℕ} (x : u ≡ order_code (get_or a n 0)) (y : v ≡ order_code (get_or b n 0)) where
  from : ℕ → Bool
  from k = before? (map order_code (drop k a)) (map order_code (drop k b))

  opened : from n ≡ (ltb u v || (eqb u v && from (n + 1)))
  unfolding from
  opened =
      let p = sym x in
      let q = sym y in
      let z = sym (add-one n) in
      ap₂ (λ (l m : List ℕ). before? (map order_code l) (map order_code m)) (drop-cons a n 0 ha) (drop-cons b n 0 hb)
      ∙ (λ i. ltb (p i) (q i) || (eqb (p i) (q i) && from (z i)))

  pub differ : ¬ (u ≡ v) → ltb u v ≡ before? (map order_code (drop n a)) (map order_code (drop n b))
  unfolding from
  differ h = sym (opened ∙ simp (ne_eqb u v h) (by_test (ltb u v)))
    where
      by_test : (t : Bool) → (t || false) ≡ t
      by_test true = refl
      by_test false = refl

  pub same : u ≡ v → before? (map order_code (drop (n + 1) a)) (map order_code (drop (n + 1) b)) ≡ before? (map order_code (drop n a)) (map order_code (drop n b))
  unfolding from
  same h = sym (opened ∙ simp (eq-eqb u v h, le-ltb u v (omega arith)))

-- where all codes so far are equal, the shorter member comes first
pub shorter : (a b : List ℕ) (n : ℕ) → n ≡ min (length a) (length b) → ltb (length a) (length b) ≡ before? (map order_code (drop n a)) (map order_code (drop n b))
shorter [] [] zero h = refl
shorter [] [] (suc n) h = absurd (omega arith)
shorter [] (y ∷ b) zero h = lt-ltb _ _ (omega arith)
shorter [] (y ∷ b) (suc n) h = absurd (omega arith)
shorter (x ∷ a) [] zero h = le-ltb _ _ (omega arith)
shorter (x ∷ a) [] (suc n) h = absurd (omega arith)
shorter (x ∷ a) (y ∷ b) zero h = absurd (omega arith)
shorter (x ∷ a) (y ∷ b) (suc n) h = simp compare.suc-suc (shorter a b n (omega arith))
