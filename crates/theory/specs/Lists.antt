-- Lists as finite sets: the combinators that the definitions are written with. Membership is mathlib's List-as-Memᴰ.
-- Assumes nothing.
use Rattle.std.specs.Prelude.{Bool, true, false, ◌&&◌, ◌||◌, cond, ℕ, zero, suc}
use mathlib.Core.List.{List, [], ◌∷◌, ◌++◌, Memᴰ as In}
use Rattle.std.proofs.Math.Option.{Option, none, some}

-- a decision, read as a test
abbrev pub decided : {P : Type 0} → Dec P → Bool
decided (yes p) = true
decided (no n) = false

module _ {A : Type 0} where
  abbrev pub guard : Bool → List A → List A
  guard true xs = xs
  guard false xs = []

  abbrev pub filter : (A → Bool) → List A → List A
  filter f [] = []
  filter f (x ∷ xs) = cond (f x) (x ∷ filter f xs) (filter f xs)

  abbrev pub some? : (A → Bool) → List A → Bool
  some? f [] = false
  some? f (x ∷ xs) = f x || some? f xs

  abbrev pub every? : (A → Bool) → List A → Bool
  every? f [] = true
  every? f (x ∷ xs) = f x && every? f xs

  -- x at the end of xs, unless one equal to it stands there
  unfoldable pub adjoin : (A → A → Bool) → List A → A → List A
  adjoin eq xs x = cond (some? (eq x) xs) xs (xs ++ (x ∷ []))

  -- each of the second list in turn: of equal ones the first stays
  abbrev pub adjoin_all : (A → A → Bool) → List A → List A → List A
  adjoin_all eq xs [] = xs
  adjoin_all eq xs (y ∷ ys) = adjoin_all eq (adjoin eq xs y) ys

  -- the index of the first element that fails the test, counted from i
  abbrev pub first_failing : (A → Bool) → ℕ → List A → Option ℕ
  first_failing f i [] = none
  first_failing f i (x ∷ xs) = let later = first_failing f (suc i) xs in cond (f x) later (some i)

  -- x, at index i, is the first element of which P holds
  pub data First (P : A → Type 0) : List A → ℕ → A → Type 0 where
    now : {x : A} {xs : List A} → P x → First P (x ∷ xs) 0 x
    later : {x y : A} {xs : List A} {i : ℕ} → ¬ P x → First P xs i y → First P (x ∷ xs) (suc i) y

  -- no element stands twice
  abbrev pub NoRepeat : List A → Type 0
  NoRepeat [] = Unit {0}
  NoRepeat (x ∷ xs) = ¬ In x xs × NoRepeat xs

module _ {A B : Type 0} where
  abbrev pub concat_map : (A → List B) → List A → List B
  concat_map f [] = []
  concat_map f (x ∷ xs) = f x ++ concat_map f xs

-- f at i, i + 1, .., n values
abbrev pub tabulate : {A : Type 0} → (ℕ → A) → ℕ → ℕ → List A
tabulate f i zero = []
tabulate f i (suc n) = f i ∷ tabulate f (suc i) n

-- 0, 1, .., n - 1
abbrev pub range : ℕ → List ℕ
range n = tabulate (λ k. k) 0 n
