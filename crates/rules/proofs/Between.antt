-- Lists over the kinds: equal where the tests are, and empty where no kind passes.
-- Assumes nothing.
use mathlib.Core.Path.{◌≡◌, refl, ap, ap₂}
use mathlib.Core.Bool.{Bool}
use mathlib.Core.List.Memᴰ.{head as here}
use mathlib.Core.List.Memᴰ.{tail as there}
use mathlib.Core.List.{List, [], ◌∷◌, ◌++◌, Memᴰ as In}
use Prim.Native.Nat.{ℕ, ◌<◌}
use Rattle.theory.specs.Lists.{guard, concat_map, range}
use Rattle.theory.specs.PathExpr.{PathExpr}
use Rattle.theory.specs.Inference.{Triple, triple, between}
use Rattle.theory.proofs.Lists.{in_range}

concat_same : {A B : Type 0} (f g : A → List B) (xs : List A) → ((x : A) → In x xs → f x ≡ g x) → concat_map f xs ≡ concat_map g xs
concat_same f g [] h = refl
concat_same f g (x ∷ xs) h = ap₂ (λ a b. a ++ b) (h x (here refl)) (concat_same f g xs (λ y m. h y (there m)))

concat_none : {A B : Type 0} (f : A → List B) (xs : List A) → ((x : A) → In x xs → f x ≡ []) → concat_map f xs ≡ []
concat_none f [] h = refl
concat_none f (x ∷ xs) h = ap₂ (λ a b. a ++ b) (h x (here refl)) (concat_none f xs (λ y m. h y (there m)))

pub none_below : (n : ℕ) (f : ℕ → List Triple) → ((k : ℕ) → k < n → f k ≡ []) → concat_map f (range n) ≡ []
none_below n f h = concat_none f (range n) (λ k m. h k (in_range n m))

pub between_same : (n : ℕ) (p : PathExpr) (f g : ℕ → ℕ → Bool) → ((a b : ℕ) → a < n → b < n → f a b ≡ g a b) → between n p f ≡ between n p g
between_same n p f g h =
    concat_same (row f) (row g) (range n)
    (λ a m. concat_same (one f a) (one g a) (range n) (λ b k. ap (λ (t : Bool). guard t (triple a p b ∷ [])) (h a b (in_range n m) (in_range n k))))
  where
    one : (ℕ → ℕ → Bool) → ℕ → ℕ → List Triple
    one t a b = guard (t a b) (triple a p b ∷ [])

    row : (ℕ → ℕ → Bool) → ℕ → List Triple
    row t a = concat_map (λ b. guard (t a b) (triple a p b ∷ [])) (range n)
