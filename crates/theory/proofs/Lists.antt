-- Membership in the lists that the combinators of specs/Lists.antt make; rows, and writing one list after another.
-- Assumes nothing.
use mathlib.Core.Path.{◌≡◌, refl, sym, ap, ap₂, ◌∙◌, subst}
use mathlib.Core.Logic.{◌⊎◌, inl, inr}
use mathlib.Core.Bool.{Bool, true, false}
use mathlib.Core.List.Memᴰ.{append_cases as in-append}
use mathlib.Core.List.Memᴰ.{head as here}
use mathlib.Core.List.Memᴰ.{not-nil as in-nil}
use mathlib.Core.List.Memᴰ.{tail as there}
use mathlib.Core.List.{List, [], ◌∷◌, ◌++◌, Memᴰ as In}
use mathlib.Core.List.Memᴰ.{append_left as in_left}
use mathlib.Core.List.Memᴰ.{append_right as in_right}
use Prim.Native.Nat.{ℕ, zero, suc, ◌+◌, ◌<◌, ◌≤◌, ◌-◌}
use native.Mathlib.Nat.{add-zero, zero-add, add-suc, suc-add, le_of_suc-le-suc, not-suc-le-zero}
use native.Mathlib.Numerals.{add-one}
use native.Mathlib.Omega.{arith}
use lib.Dec.{T, T_not}
use lib.ListN.{length, get_or, set}
use lib.Seq.{sets}
use Rattle.theory.specs.Lists.{guard, filter, some?, every?, concat_map, tabulate, range}
use Rattle.theory.proofs.Tests.{and_left, and_right, and_both, or_left, or_right, or_cases, cond-case}

module _ {A : Type 0} where
  pub in_guard : (b : Bool) (xs : List A) {x : A} → In x (guard b xs) → T b × In x xs
  in_guard true xs m = (tt, m)
  in_guard false xs m = absurd (in-nil m)

  pub guard_in : (b : Bool) {xs : List A} {x : A} → T b → In x xs → In x (guard b xs)
  guard_in true t m = m
  guard_in false t m = absurd t

  pub in_filter : (f : A → Bool) (xs : List A) {x : A} → In x (filter f xs) → In x xs × T (f x)
  in_filter f [] m = absurd (in-nil m)
  in_filter f (y ∷ ys) {x} m = cond-case (λ zs. In x zs → In x (y ∷ ys) × T (f x)) (f y) (λ t n. go t n (λ k. in_filter f ys k)) (λ t n. later (in_filter f ys n)) m
    where
      later : In x ys × T (f x) → In x (y ∷ ys) × T (f x)
      later r = (there r.0, r.1)

      go : T (f y) → In x (y ∷ filter f ys) → (In x (filter f ys) → In x ys × T (f x)) → In x (y ∷ ys) × T (f x)
      go t (here e) rest = (here e, subst (λ z. T (f z)) (sym e) t)
      go t (there k) rest = later (rest k)

  pub filter_in : (f : A → Bool) {x : A} {xs : List A} → In x xs → T (f x) → In x (filter f xs)
  filter_in f {x} (here {x = y} {xs = ys} e) t =
      cond-case (λ zs. In x zs) (f y) (λ _. here e) (λ u. absurd (T_not (f y) u (subst (λ z. T (f z)) e t)))
  filter_in f {x} (there {x = y} {xs = ys} m) t = cond-case (λ zs. In x zs) (f y) (λ _. there (filter_in f m t)) (λ _. filter_in f m t)

  pub some_in : (f : A → Bool) (xs : List A) → T (some? f xs) → (x : A) × In x xs × T (f x)
  some_in f [] t = absurd t
  some_in f (x ∷ xs) t = go (or_cases (f x) (some? f xs) t) (λ u. some_in f xs u)
    where
      go : T (f x) ⊎ T (some? f xs) → (T (some? f xs) → (y : A) × In y xs × T (f y)) → (y : A) × In y (x ∷ xs) × T (f y)
      go (inl u) rest = (x, here refl, u)
      go (inr u) rest = let r = rest u in (r.0, there r.1, r.2)

  pub in_some : (f : A → Bool) {x : A} {xs : List A} → In x xs → T (f x) → T (some? f xs)
  in_some f (here {x = y} {xs = ys} e) t = or_left (f y) (some? f ys) (subst (λ z. T (f z)) e t)
  in_some f (there {x = y} {xs = ys} m) t = or_right (f y) (some? f ys) (in_some f m t)

  pub every_in : (f : A → Bool) {x : A} {xs : List A} → T (every? f xs) → In x xs → T (f x)
  every_in f t (here {x = y} {xs = ys} e) = subst (λ z. T (f z)) (sym e) (and_left (f y) (every? f ys) t)
  every_in f t (there {x = y} {xs = ys} m) = every_in f (and_right (f y) (every? f ys) t) m

  pub in_every : (f : A → Bool) (xs : List A) → ((x : A) → In x xs → T (f x)) → T (every? f xs)
  in_every f [] h = tt
  in_every f (x ∷ xs) h = and_both (f x) (every? f xs) (h x (here refl)) (in_every f xs (λ y m. h y (there m)))

module _ {A B : Type 0} where
  pub in_concat_map : (f : A → List B) (xs : List A) {y : B} → In y (concat_map f xs) → (x : A) × In x xs × In y (f x)
  in_concat_map f [] m = absurd (in-nil m)
  in_concat_map f (x ∷ xs) {y} m = go (in-append (f x) m) (λ n. in_concat_map f xs n)
    where
      go : In y (f x) ⊎ In y (concat_map f xs) → (In y (concat_map f xs) → (z : A) × In z xs × In y (f z)) → (z : A) × In z (x ∷ xs) × In y (f z)
      go (inl n) rest = (x, here refl, n)
      go (inr n) rest = let r = rest n in (r.0, there r.1, r.2)

  pub concat_map_in : (f : A → List B) {x : A} {xs : List A} {y : B} → In x xs → In y (f x) → In y (concat_map f xs)
  concat_map_in f {y = y} (here {x = z} {xs = zs} e) n = in_left (concat_map f zs) (subst (λ u. In y (f u)) e n)
  concat_map_in f (there {x = z} m) n = in_right (f z) (concat_map_in f m n)

-- ---- rows
module _ {A : Type 0} (f : ℕ → A) where
  shift : (i k : ℕ) → f (suc i + k) ≡ f (i + suc k)
  shift i k = ap f (suc-add i k ∙ sym (add-suc i k))

  pub tabulate_at : (i n k : ℕ) (d : A) → k < n → get_or (tabulate f i n) k d ≡ f (i + k)
  tabulate_at i zero k d h = absurd (not-suc-le-zero h)
  tabulate_at i (suc n) zero d h = ap f (sym (add-zero i))
  tabulate_at i (suc n) (suc k) d h = tabulate_at (suc i) n k d (le_of_suc-le-suc h) ∙ shift i k

  pub length_tabulate : (i n : ℕ) → length (tabulate f i n) ≡ n
  length_tabulate i zero = refl
  length_tabulate i (suc n) = ap suc (length_tabulate (suc i) n)

  pub tabulate_in : (i n k : ℕ) → k < n → In (f (i + k)) (tabulate f i n)
  tabulate_in i zero k h = absurd (not-suc-le-zero h)
  tabulate_in i (suc n) zero h = here (ap f (add-zero i))
  tabulate_in i (suc n) (suc k) h = there (subst (λ x. In x (tabulate f (suc i) n)) (shift i k) (tabulate_in (suc i) n k (le_of_suc-le-suc h)))

  pub in_tabulate : (i n : ℕ) {x : A} → In x (tabulate f i n) → (k : ℕ) × (k < n) × (x ≡ f (i + k))
  in_tabulate i zero m = absurd (in-nil m)
  in_tabulate i (suc n) (here e) = (0, omega arith, e ∙ ap f (sym (add-zero i)))
  in_tabulate i (suc n) (there m) = let r = in_tabulate (suc i) n m in (suc r.0, omega (arith, r.1), r.2 ∙ shift i r.0)

  -- one more at the end
  pub tabulate_suc : (i n : ℕ) → tabulate f i (suc n) ≡ tabulate f i n ++ (f (i + n) ∷ [])
  tabulate_suc i zero = rw (add-zero i)
  tabulate_suc i (suc n) = ap (λ (l : List A). f i ∷ l) (tabulate_suc (suc i) n ∙ ap (λ (x : A). tabulate f (suc i) n ++ (x ∷ [])) (shift i n))

pub tabulate_same : {A : Type 0} (f g : ℕ → A) (i n : ℕ) → ((k : ℕ) → i ≤ k → k < i + n → f k ≡ g k) → tabulate f i n ≡ tabulate g i n
tabulate_same f g i zero e = refl
tabulate_same {A} f g i (suc n) e = ap₂ (λ (x : A) (l : List A). x ∷ l) (e i (omega arith) (omega arith)) (tabulate_same f g (suc i) n (λ k l h. e k (omega arith) (omega arith)))

pub range_in : (n k : ℕ) → k < n → In k (range n)
range_in n k h = subst (λ x. In x (range n)) (zero-add k) (tabulate_in (λ x. x) 0 n k h)

pub in_range : (n : ℕ) {k : ℕ} → In k (range n) → k < n
in_range n m = let r = in_tabulate (λ x. x) 0 n m in omega (arith, r.1, r.2)

pub range_at : (n k : ℕ) → k < n → get_or (range n) k 0 ≡ k
range_at n k h = tabulate_at (λ x. x) 0 n k 0 h ∙ zero-add k

-- ---- writing one list after another
pub sets_append : (u v l : List ℕ) (i : ℕ) → sets (sets l i u) (i + length u) v ≡ sets l i (u ++ v)
sets_append [] v l i = rw (add-zero i)
sets_append (a ∷ u) v l i = rw (add-suc i (length u), ← suc-add i (length u)) (sets_append u v (set l i a) (suc i))

-- what is left of a row, from j on
pub tabulate_next : {A : Type 0} (f : ℕ → A) (j e : ℕ) → j < e → tabulate f j (e - j) ≡ f j ∷ tabulate f (j + 1) (e - (j + 1))
tabulate_next f j e h = let q : e - j ≡ suc (e - (j + 1)) = omega arith in rw (q, add-one j)
