-- The first element that fails: what `refuse` and `first_failing` find is the first of which it holds.
-- Assumes nothing.
use mathlib.Core.Path.{◌≡◌, refl, sym, ap, ◌∙◌, subst}
use mathlib.Core.Logic.{◌⊎◌, inl, inr}
use mathlib.Core.Bool.{Bool, true, false, not, cond}
use mathlib.Core.List.Memᴰ.{head as here}
use mathlib.Core.List.Memᴰ.{not-nil as in-nil}
use mathlib.Core.List.Memᴰ.{tail as there}
use mathlib.Core.List.{List, [], ◌∷◌, Memᴰ as In}
use mathlib.Core.Option.{none, some}
use Prim.Native.Nat.{ℕ, zero, suc, ◌+◌}
use native.Mathlib.Nat.{add-zero, add-suc, suc-add}
use native.Mathlib.Omega.{arith}
use lib.Dec.{T}
use Rattle.theory.specs.Lists.{first_failing, First, now, later}
use Rattle.theory.specs.Narrowing.{Narrowing, unless, refuse}
use Rattle.theory.specs.Result.{refused}

shift : (i j : ℕ) → suc i + j ≡ i + suc j
shift i j = suc-add i j ∙ sym (add-suc i j)

module _ {A : Type 0} {P : A → Type 0} where
  pub first_holds : {xs : List A} {i : ℕ} {x : A} → First P xs i x → P x
  first_holds (now p) = p
  first_holds (later n f) = first_holds f

  pub first_in : {xs : List A} {i : ℕ} {x : A} → First P xs i x → In x xs
  first_in (now p) = here refl
  first_in (later n f) = there (first_in f)

  -- tests that say the same find the same
  pub first_map : {Q : A → Type 0} → ((x : A) → P x → Q x) → ((x : A) → Q x → P x) → {xs : List A} {i : ℕ} {x : A} → First P xs i x → First Q xs i x
  first_map f g (now {x = x} p) = now (f x p)
  first_map f g (later {x = x} n h) = later (λ q. n (g x q)) (first_map f g h)

  -- a first one, or none
  pub scan : ((x : A) → P x ⊎ ¬ P x) → (xs : List A) → ((i : ℕ) × (x : A) × First P xs i x) ⊎ ((x : A) → In x xs → ¬ P x)
  scan p? [] = inr (λ x m. absurd (in-nil m))
  scan p? (x ∷ xs) = go (p? x) (scan p? xs)
    where
      none_here : ¬ P x → ((y : A) → In y xs → ¬ P y) → (y : A) → In y (x ∷ xs) → ¬ P y
      none_here n h y (here e) = λ p. n (subst P e p)
      none_here n h y (there m) = h y m

      go : P x ⊎ ¬ P x → ((i : ℕ) × (y : A) × First P xs i y) ⊎ ((y : A) → In y xs → ¬ P y)
          → ((i : ℕ) × (y : A) × First P (x ∷ xs) i y) ⊎ ((y : A) → In y (x ∷ xs) → ¬ P y)
      go (inl p) rest = inl (0, x, now p)
      go (inr n) (inl f) = inl (suc f.0, f.1, later n f.2)
      go (inr n) (inr h) = inr (none_here n h)

-- ---- faults, as numbers
module _ {A : Type 0} (fault : A → ℕ) where
  abbrev pub Fault : A → Type 0
  Fault x = ¬ (fault x ≡ 0)

  pub fault? : (x : A) → Fault x ⊎ ¬ Fault x
  fault? x = go (fault x) refl
    where
      go : (n : ℕ) → fault x ≡ n → Fault x ⊎ ¬ Fault x
      go zero e = inr (λ n. n e)
      go (suc n) e = inl (λ z. absurd (omega (arith, e, z)))

  pub no_fault : (x : A) → ¬ Fault x → fault x ≡ 0
  no_fault x n = go (fault x) refl
    where
      go : (k : ℕ) → fault x ≡ k → k ≡ 0
      go zero e = refl
      go (suc k) e = absurd (n (λ z. absurd (omega (arith, e, z))))

  pub first_refused : {xs : List A} {j : ℕ} {x : A} → First Fault xs j x → (i : ℕ) (o : Narrowing) → refuse fault i xs o ≡ refused (fault x) (i + j)
  first_refused (now {x = x} {xs = xs} p) i o = go (fault x) refl
    where
      go : (n : ℕ) → fault x ≡ n → unless n i (refuse fault (suc i) xs o) ≡ refused n (i + 0)
      go zero e = absurd (p e)
      go (suc n) e = ap (refused (suc n)) (sym (add-zero i))
  first_refused (later {x = x} {y = y} {xs = xs} {i = j} n f) i o =
      ap (λ k. unless k i (refuse fault (suc i) xs o)) (no_fault x n) ∙ first_refused f (suc i) o ∙ ap (refused (fault y)) (shift i j)

  pub none_refused : (xs : List A) → ((x : A) → In x xs → fault x ≡ 0) → (i : ℕ) (o : Narrowing) → refuse fault i xs o ≡ o
  none_refused [] h i o = refl
  none_refused (x ∷ xs) h i o =
      ap (λ k. unless k i (refuse fault (suc i) xs o)) (h x (here refl)) ∙ none_refused xs (λ y m. h y (there m)) (suc i) o

-- ---- tests that fail
module _ {A : Type 0} (f : A → Bool) where
  abbrev pub Fails : A → Type 0
  Fails x = T (not (f x))

  pub fails? : (x : A) → Fails x ⊎ ¬ Fails x
  fails? x = go (f x)
    where
      go : (b : Bool) → T (not b) ⊎ ¬ T (not b)
      go true = inr (λ t. t)
      go false = inl tt

  pub holds_not : (x : A) → ¬ Fails x → f x ≡ true
  holds_not x n = go (f x) n
    where
      go : (b : Bool) → ¬ T (not b) → b ≡ true
      go true n = refl
      go false n = absurd (n tt)

  pub first_fails : {xs : List A} {j : ℕ} {x : A} → First Fails xs j x → (i : ℕ) → first_failing f i xs ≡ some (i + j)
  first_fails (now {x = x} {xs = xs} p) i = go (f x) p
    where
      go : (b : Bool) → T (not b) → cond b (first_failing f (suc i) xs) (some i) ≡ some (i + 0)
      go true p = absurd p
      go false p = ap some (sym (add-zero i))
  first_fails (later {x = x} {xs = xs} {i = j} n h) i =
      ap (λ b. cond b (first_failing f (suc i) xs) (some i)) (holds_not x n) ∙ first_fails h (suc i) ∙ ap some (shift i j)

  pub none_fails : (xs : List A) → ((x : A) → In x xs → ¬ Fails x) → (i : ℕ) → first_failing f i xs ≡ none
  none_fails [] h i = refl
  none_fails (x ∷ xs) h i =
      ap (λ b. cond b (first_failing f (suc i) xs) (some i)) (holds_not x (h x (here refl))) ∙ none_fails xs (λ y m. h y (there m)) (suc i)
