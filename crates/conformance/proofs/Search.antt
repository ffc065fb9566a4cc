-- The search for the first element that fails a test, one element on; and tests that agree on each element.
-- Assumes nothing.
use mathlib.Core.Path.{◌≡◌, refl, ap, ap₂}
use mathlib.Core.Bool.{Bool, true, false, cond}
use mathlib.Core.List.Memᴰ.{head as here}
use mathlib.Core.List.Memᴰ.{tail as there}
use mathlib.Core.List.{List, [], ◌∷◌, Memᴰ as In}
use mathlib.Core.Option.{some}
use Prim.Native.Nat.{ℕ, suc}
use Rattle.theory.specs.Lists.{first_failing}

module _ {A : Type 0} (f : A → Bool) (i : ℕ) (x : A) (xs : List A) where
  pub fails_here : f x ≡ false → first_failing f i (x ∷ xs) ≡ some i
  fails_here e = ap (λ b. cond b (first_failing f (suc i) xs) (some i)) e

  pub fails_later : f x ≡ true → first_failing f i (x ∷ xs) ≡ first_failing f (suc i) xs
  fails_later e = ap (λ b. cond b (first_failing f (suc i) xs) (some i)) e

pub same_failing : {A : Type 0} (f g : A → Bool) (i : ℕ) (xs : List A) → ((x : A) → In x xs → f x ≡ g x) → first_failing f i xs ≡ first_failing g i xs
same_failing f g i [] h = refl
same_failing f g i (x ∷ xs) h =
    ap₂ (λ b o. cond b o (some i)) (h x (here refl)) (same_failing f g (suc i) xs (λ y m. h y (there m)))
