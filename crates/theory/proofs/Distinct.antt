-- Lists without repeats: `adjoin_all` makes one, of the elements of both lists; and two that have the same elements have the same length.
-- Assumes nothing.
use mathlib.Core.Path.{◌≡◌, refl, sym, ap, ◌∙◌, subst}
use mathlib.Core.Logic.{◌⊎◌, inl, inr, ⊎_elim}
use mathlib.Core.Bool.{Bool}
use mathlib.Core.List.Memᴰ.{append_cases as in-append}
use mathlib.Core.List.Memᴰ.{head as here}
use mathlib.Core.List.Memᴰ.{not-nil as in-nil}
use mathlib.Core.List.Memᴰ.{tail as there}
use mathlib.Core.List.{List, [], ◌∷◌, ◌++◌, Memᴰ as In}
use mathlib.Core.List.Memᴰ.{append_left as in_left}
use mathlib.Core.List.Memᴰ.{append_right as in_right}
use mathlib.Core.List.Memᴰ.{eq_of_singleton as in_one}
use Prim.Native.Nat.{suc, ◌≤◌, zero-le}
use native.Mathlib.Omega.{arith}
use lib.Dec.{T, T_not}
use lib.ListN.{length, length-append}
use Rattle.theory.specs.Lists.{some?, adjoin, adjoin_all, NoRepeat}
use Rattle.theory.proofs.Tests.{cond-case}
use Rattle.theory.proofs.Lists.{some_in, in_some}

module _ {A : Type 0} where
  module _ (eq : A → A → Bool) where
    pub in_adjoin : {x y : A} (xs : List A) → In y (adjoin eq xs x) → In y xs ⊎ (y ≡ x)
    unfolding adjoin
    in_adjoin {x} {y} xs m =
        cond-case (λ zs. In y zs → In y xs ⊎ (y ≡ x)) (some? (eq x) xs) (λ _ n. inl n)
        (λ _ n. ⊎_elim (λ a. inl a) (λ b. inr (in_one b)) (in-append xs n)) m

    adjoin_old : {y : A} (xs : List A) (x : A) → In y xs → In y (adjoin eq xs x)
    unfolding adjoin
    adjoin_old {y} xs x m = cond-case (λ zs. In y zs) (some? (eq x) xs) (λ _. m) (λ _. in_left (x ∷ []) m)

    pub in_adjoin_all : {y : A} (xs ys : List A) → In y (adjoin_all eq xs ys) → In y xs ⊎ In y ys
    in_adjoin_all xs [] m = inl m
    in_adjoin_all xs (x ∷ ys) m =
        ⊎_elim (λ a. ⊎_elim (λ b. inl b) (λ e. inr (here e)) (in_adjoin xs a)) (λ b. inr (there b)) (in_adjoin_all (adjoin eq xs x) ys m)

    pub adjoin_all_old : {y : A} (xs ys : List A) → In y xs → In y (adjoin_all eq xs ys)
    adjoin_all_old xs [] m = m
    adjoin_all_old xs (x ∷ ys) m = adjoin_all_old (adjoin eq xs x) ys (adjoin_old xs x m)

    adjoin_longer : (xs : List A) (x : A) → length xs ≤ length (adjoin eq xs x)
    unfolding adjoin
    adjoin_longer xs x = cond-case (λ zs. length xs ≤ length zs) (some? (eq x) xs) {x = xs} {y = xs ++ (x ∷ [])} (λ _. omega arith) (λ _. rw (length-append xs (x ∷ [])) (omega arith))

    pub adjoin_all_longer : (xs ys : List A) → length xs ≤ length (adjoin_all eq xs ys)
    adjoin_all_longer xs [] = omega arith
    adjoin_all_longer xs (y ∷ ys) = omega (arith, adjoin_longer xs y, adjoin_all_longer (adjoin eq xs y) ys)

    pub adjoin_all_append : (xs ys zs : List A) → adjoin_all eq xs (ys ++ zs) ≡ adjoin_all eq (adjoin_all eq xs ys) zs
    adjoin_all_append xs [] zs = refl
    adjoin_all_append xs (y ∷ ys) zs = adjoin_all_append (adjoin eq xs y) ys zs

    module _ (sound : (x y : A) → T (eq x y) → x ≡ y) where
      adjoin_new : (xs : List A) (x : A) → In x (adjoin eq xs x)
      unfolding adjoin
      adjoin_new xs x =
          cond-case (λ zs. In x zs) (some? (eq x) xs)
          (λ t. let r = some_in (eq x) xs t in subst (λ u. In u xs) (sym (sound x r.0 r.2)) r.1)
          (λ _. in_right xs (here refl))

      pub adjoin_all_new : {y : A} (xs : List A) {ys : List A} → In y ys → In y (adjoin_all eq xs ys)
      adjoin_all_new {y} xs (here {x = x} {xs = ys} e) = subst (λ u. In u (adjoin_all eq (adjoin eq xs x) ys)) (sym e) (adjoin_all_old (adjoin eq xs x) ys (adjoin_new xs x))
      adjoin_all_new xs (there {x = x} m) = adjoin_all_new (adjoin eq xs x) m

    module _ (reflexive : (x : A) → T (eq x x)) where
      snoc : (xs : List A) (x : A) → NoRepeat xs → ¬ In x xs → NoRepeat (xs ++ (x ∷ []))
      snoc [] x n h = (in-nil, tt)
      snoc (y ∷ xs) x n h = ((λ m. ⊎_elim n.0 (λ b. h (here (sym (in_one b)))) (in-append xs m)), snoc xs x n.1 (λ m. h (there m)))

      adjoin_norepeat : (xs : List A) (x : A) → NoRepeat xs → NoRepeat (adjoin eq xs x)
      unfolding adjoin
      adjoin_norepeat xs x n = cond-case NoRepeat (some? (eq x) xs) (λ _. n) (λ s. snoc xs x n (λ m. T_not (some? (eq x) xs) s (in_some (eq x) m (reflexive x))))

      pub adjoin_all_norepeat : (xs ys : List A) → NoRepeat xs → NoRepeat (adjoin_all eq xs ys)
      adjoin_all_norepeat xs [] n = n
      adjoin_all_norepeat xs (y ∷ ys) n = adjoin_all_norepeat (adjoin eq xs y) ys (adjoin_norepeat xs y n)

module _ {A : Type 0} where
  -- the list without the element at a place
  without : {x : A} {xs : List A} → In x xs → List A
  without (here {xs = xs} e) = xs
  without (there {x = y} m) = y ∷ without m

  length_without : {x : A} {xs : List A} (m : In x xs) → length xs ≡ suc (length (without m))
  unfolding without
  length_without (here e) = refl
  length_without (there m) = ap suc (length_without m)

  in_without : {x y : A} {xs : List A} (m : In x xs) → In y xs → ¬ (y ≡ x) → In y (without m)
  unfolding without
  in_without (here e) (here f) h = absurd (h (f ∙ sym e))
  in_without (here e) (there n) h = n
  in_without (there m) (here f) h = here f
  in_without (there m) (there n) h = there (in_without m n h)

  pub length_le : (xs ys : List A) → NoRepeat xs → ((x : A) → In x xs → In x ys) → length xs ≤ length ys
  length_le [] ys n f = zero-le
  length_le (x ∷ xs) ys n f =
      let m = f x (here refl) in
      let l = length_le xs (without m) n.1 (λ y i. in_without m (f y (there i)) (λ e. n.0 (subst (λ z. In z xs) e i))) in
      omega (arith, length_without m)
