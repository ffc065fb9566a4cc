-- Lists of triples as sets of triples: equality, pairs, the triples between two kinds.
-- Assumes nothing.
use mathlib.Core.Path.{◌≡◌, refl}
use mathlib.Core.Logic.{⊎_elim}
use mathlib.Core.Bool.{Bool}
use mathlib.Core.List.Memᴰ.{eq_of_singleton as in_one}
use mathlib.Core.List.Memᴰ.{head as here}
use mathlib.Core.List.Memᴰ.{not-nil as in-nil}
use mathlib.Core.List.{List, [], ◌∷◌, Memᴰ as In}
use Prim.Native.Nat.{ℕ, ◌<◌}
use lib.Dec.{T, eqb→eq, eqb_refl}
use Rattle.theory.specs.Lists.{guard, concat_map, range, NoRepeat}
use Rattle.theory.specs.PathExpr.{PathExpr, same?, path_discrete}
use Rattle.theory.specs.Derivation.{Triples}
use Rattle.theory.specs.Inference.{Triple, triple, triple?, distinct, between, pairs}
use Rattle.theory.proofs.Tests.{tests, of_decided, to_decided}
use Rattle.theory.proofs.Lists.{in_guard, guard_in, in_concat_map, concat_map_in, range_in, in_range}
use Rattle.theory.proofs.Distinct.{in_adjoin_all, adjoin_all_new, adjoin_all_norepeat}

pub triple_eq : (x y : Triple) → T (triple? x y) → x ≡ y
unfolding triple? same?
triple_eq x y t =
    let a : x.from ≡ y.from = search (tests, eqb→eq) in
    let b : x.to ≡ y.to = search (tests, eqb→eq) in
    let s : T (same? x.path y.path) = search tests in
    let p : x.path ≡ y.path = of_decided (path_discrete x.path y.path) s in
    λ i. record { from = a i; path = p i; to = b i }

pub triple_refl : (x : Triple) → T (triple? x x)
unfolding triple? same?
triple_refl x = search (tests, eqb_refl, to_decided (path_discrete x.path x.path) refl)

-- ---- sets of triples
abbrev pub Of : List Triple → Triples
Of ts a p b = In (triple a p b) ts

-- two sets of triples are one
abbrev pub Same : Triples → Triples → Type 0
Same P Q = (a : ℕ) (p : PathExpr) (b : ℕ) → (P a p b → Q a p b) × (Q a p b → P a p b)

pub same_trans : {P Q R : Triples} → Same P Q → Same Q R → Same P R
same_trans f g a p b = (λ x. (g a p b).0 ((f a p b).0 x), λ z. (f a p b).1 ((g a p b).1 z))

pub in_distinct : (ts : List Triple) {t : Triple} → In t (distinct ts) → In t ts
in_distinct ts m = ⊎_elim (λ n. absurd (in-nil n)) (λ n. n) (in_adjoin_all triple? [] ts m)

pub distinct_in : {ts : List Triple} {t : Triple} → In t ts → In t (distinct ts)
distinct_in m = adjoin_all_new triple? triple_eq [] m

pub distinct_same : (ts : List Triple) → Same (Of (distinct ts)) (Of ts)
distinct_same ts a p b = (λ m. in_distinct ts m, λ m. distinct_in m)

pub distinct_norepeat : (ts : List Triple) → NoRepeat (distinct ts)
distinct_norepeat ts = adjoin_all_norepeat triple? triple_refl [] ts tt

-- ---- pairs
module _ (fits : Triple → Triple → Bool) (give : Triple → Triple → Triple) where
  pub record Paired (xs ys : List Triple) (t : Triple) : Type 0 where
    pub fst : Triple
    pub snd : Triple
    pub in_xs : In fst xs
    pub in_ys : In snd ys
    pub fit : T (fits fst snd)
    pub given : t ≡ give fst snd

  pub in_pairs : (xs ys : List Triple) {t : Triple} → In t (pairs fits give xs ys) → Paired xs ys t
  in_pairs xs ys m =
      let x = in_concat_map (λ x. concat_map (λ y. guard (fits x y) (give x y ∷ [])) ys) xs m in
      let y = in_concat_map (λ y. guard (fits x.0 y) (give x.0 y ∷ [])) ys x.2 in
      let g = in_guard (fits x.0 y.0) (give x.0 y.0 ∷ []) y.2 in
      record { fst = x.0; snd = y.0; in_xs = x.1; in_ys = y.1; fit = g.0; given = in_one g.1 }

  pub pairs_in : {xs ys : List Triple} {x y : Triple} → In x xs → In y ys → T (fits x y) → In (give x y) (pairs fits give xs ys)
  pairs_in {xs} {ys} {x} {y} m n t =
      concat_map_in (λ x. concat_map (λ y. guard (fits x y) (give x y ∷ [])) ys) m
      (concat_map_in (λ y. guard (fits x y) (give x y ∷ [])) n (guard_in (fits x y) t (here refl)))

-- ---- the triples between two kinds
module _ (n : ℕ) (p : PathExpr) (f : ℕ → ℕ → Bool) where
  pub in_between : {t : Triple} → In t (between n p f) → (a : ℕ) × (b : ℕ) × T (f a b) × (t ≡ triple a p b)
  in_between m =
      let x = in_concat_map (λ a. concat_map (λ b. guard (f a b) (triple a p b ∷ [])) (range n)) (range n) m in
      let y = in_concat_map (λ b. guard (f x.0 b) (triple x.0 p b ∷ [])) (range n) x.2 in
      let g = in_guard (f x.0 y.0) (triple x.0 p y.0 ∷ []) y.2 in
      (x.0, y.0, g.0, in_one g.1)

  -- its kinds are below n
  pub between_ends : {t : Triple} → In t (between n p f) → (t.from < n) × (t.to < n)
  between_ends m =
      let x = in_concat_map (λ a. concat_map (λ b. guard (f a b) (triple a p b ∷ [])) (range n)) (range n) m in
      let y = in_concat_map (λ b. guard (f x.0 b) (triple x.0 p b ∷ [])) (range n) x.2 in
      let g = in_guard (f x.0 y.0) (triple x.0 p y.0 ∷ []) y.2 in
      rw (in_one g.1) (in_range n x.1, in_range n y.1)

  pub between_in : {a b : ℕ} → a < n → b < n → T (f a b) → In (triple a p b) (between n p f)
  between_in {a} {b} h k t =
      concat_map_in (λ a. concat_map (λ b. guard (f a b) (triple a p b ∷ [])) (range n)) (range_in n a h)
      (concat_map_in (λ b. guard (f a b) (triple a p b ∷ [])) (range_in n b k) (guard_in (f a b) t (here refl)))
