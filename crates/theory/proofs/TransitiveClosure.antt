-- Warshall's table holds a pair exactly where a walk does.
-- Assumes nothing.
use mathlib.Core.Path.{◌≡◌, sym, ap, ◌∙◌, subst}
use mathlib.Core.Logic.{◌⊎◌, inl, inr}
use mathlib.Core.Bool.{Bool, false, ◌&&◌, ◌||◌, not, and-false}
use mathlib.Core.List.{List, []}
use Prim.Native.Nat.{ℕ, zero, suc, ◌+◌, ◌<◌, ◌≤◌}
use native.Mathlib.Nat.{zero-add, le_of_suc-le-suc, not-suc-le-zero, eq-or-lt_of_le, le_of_eq, le_trans}
use native.Mathlib.Omega.{arith}
use lib.Dec.{T, ltb, ltb→lt, nltb→le}
use lib.ListN.{get_or, get_or-eq_default}
use Rattle.theory.specs.Lists.{tabulate}
use Rattle.theory.specs.TransitiveClosure.{TransitiveClosure, single, extend, table, look, warshall, closure?, Table}
use Rattle.theory.proofs.Tests.{and_left, and_right, and_both, or_left, or_right, or_cases, test}
use Rattle.theory.proofs.Lists.{tabulate_at, length_tabulate, tabulate_same}

-- ---- walks
module _ {R : ℕ → ℕ → Type 0} where
  pub closure_append : {a b c : ℕ} → TransitiveClosure R a b → TransitiveClosure R b c → TransitiveClosure R a c
  closure_append p (single e) = extend p e
  closure_append p (extend q e) = extend (closure_append p q) e

pub closure_map : {R S : ℕ → ℕ → Type 0} → ((a b : ℕ) → R a b → S a b) → {a b : ℕ} → TransitiveClosure R a b → TransitiveClosure S a b
closure_map f (single {a} {b} e) = single (f a b e)
closure_map f (extend {b} {c} p e) = extend (closure_map f p) (f b c e)

-- ---- tables
module _ (n : ℕ) (f : ℕ → ℕ → Bool) where
  look_at : (a b : ℕ) → a < n → b < n → look (table n f) a b ≡ f a b
  look_at a b h k =
      ap (λ r. get_or r b false) (tabulate_at (λ x. tabulate (f x) 0 n) 0 n a [] h ∙ ap (λ x. tabulate (f x) 0 n) (zero-add a))
      ∙ tabulate_at (f a) 0 n b false k ∙ ap (f a) (zero-add b)

  look_past : (a b : ℕ) → a < n → n ≤ b → look (table n f) a b ≡ false
  look_past a b h k =
      ap (λ r. get_or r b false) (tabulate_at (λ x. tabulate (f x) 0 n) 0 n a [] h)
      ∙ get_or-eq_default (tabulate (f (0 + a)) 0 n) false (le_trans (le_of_eq (length_tabulate (f (0 + a)) 0 n)) k)

  -- where f has nothing past n
  pub look_all : (a b : ℕ) → a < n → (n ≤ b → f a b ≡ false) → look (table n f) a b ≡ f a b
  look_all a b h e = go (test (ltb b n))
    where
      go : T (ltb b n) ⊎ T (not (ltb b n)) → look (table n f) a b ≡ f a b
      go (inl k) = look_at a b h (ltb→lt b n k)
      go (inr k) = look_past a b h (nltb→le b n k) ∙ sym (e (nltb→le b n k))

  pub look_make : {a b : ℕ} → a < n → b < n → T (f a b) → T (look (table n f) a b)
  look_make {a} {b} h k t = subst T (sym (look_at a b h k)) t

  pub look_true : (a b : ℕ) → T (look (table n f) a b) → (a < n) × (b < n) × T (f a b)
  look_true a b t = go (test (ltb a n)) (test (ltb b n))
    where
      go : T (ltb a n) ⊎ T (not (ltb a n)) → T (ltb b n) ⊎ T (not (ltb b n)) → (a < n) × (b < n) × T (f a b)
      go (inl h) (inl k) = (ltb→lt a n h, ltb→lt b n k, subst T (look_at a b (ltb→lt a n h) (ltb→lt b n k)) t)
      go (inl h) (inr k) = absurd (subst T (look_past a b (ltb→lt a n h) (nltb→le b n k)) t)
      go (inr h) k =
          absurd (subst T
          (ap (λ r. get_or r b false) (get_or-eq_default (tabulate (λ x. tabulate (f x) 0 n) 0 n) [] (le_trans (le_of_eq (length_tabulate (λ x. tabulate (f x) 0 n) 0 n)) (nltb→le a n h)))) t)

-- ---- Warshall's rule
module _ (n : ℕ) (f : ℕ → ℕ → Bool) where
  -- a walk whose numbers between are below k
  abbrev W : ℕ → ℕ → ℕ → Type 0
  W k a b = T (look (warshall n f k) a b)

  abbrev E : ℕ → ℕ → Type 0
  E a b = T (f a b)

  abbrev next : ℕ → ℕ → ℕ → Bool
  next k a b = let t = warshall n f k in look t a b || (look t a k && look t k b)

  warshall_past : (k a b : ℕ) → a < n → n ≤ b → look (warshall n f k) a b ≡ false
  warshall_past zero a b h l = look_past n f a b h l
  warshall_past (suc k) a b h l = look_past n (next k) a b h l

  -- a round, as an equation
  pub warshall_round : (k a b : ℕ) → k < n → a < n → look (warshall n f (suc k)) a b ≡ next k a b
  warshall_round k a b hk h =
      look_all n (next k) a b h (λ l. rw (warshall_past k a b h l, warshall_past k k b hk l) (and-false (look (warshall n f k) a k)))

  split : (k a b : ℕ) → W (suc k) a b → W k a b ⊎ (W k a k × W k k b)
  split k a b w = go (or_cases (look t a b) (look t a k && look t k b) (look_true n (next k) a b w).2)
    where
      t : List (List Bool)
      t = warshall n f k

      go : T (look t a b) ⊎ T (look t a k && look t k b) → W k a b ⊎ (W k a k × W k k b)
      go (inl x) = inl x
      go (inr x) = inr (and_left (look t a k) (look t k b) x, and_right (look t a k) (look t k b) x)

  bounds : (k a b : ℕ) → W k a b → (a < n) × (b < n)
  bounds zero a b w = let r = look_true n f a b w in (r.0, r.1)
  bounds (suc k) a b w = let r = look_true n (next k) a b w in (r.0, r.1)

  stay : (k a b : ℕ) → W k a b → W (suc k) a b
  stay k a b w =
      let t = warshall n f k in
      let r = bounds k a b w in
      look_make n (next k) r.0 r.1 (or_left (look t a b) (look t a k && look t k b) w)

  via : (k a b : ℕ) → W k a k → W k k b → W (suc k) a b
  via k a b p q =
      let t = warshall n f k in
      look_make n (next k) (bounds k a k p).0 (bounds k k b q).1 (or_right (look t a b) (look t a k && look t k b) (and_both (look t a k) (look t k b) p q))

  sound : (k a b : ℕ) → W k a b → TransitiveClosure E a b
  sound zero a b w = single (look_true n f a b w).2
  sound (suc k) a b w = go (split k a b w) (λ a b v. sound k a b v)
    where
      go : W k a b ⊎ (W k a k × W k k b) → ((a b : ℕ) → W k a b → TransitiveClosure E a b) → TransitiveClosure E a b
      go (inl x) ih = ih a b x
      go (inr x) ih = closure_append (ih a k x.0) (ih k b x.1)

  to_last : (k a : ℕ) → W (suc k) a k → W k a k
  to_last k a w = elim (split k a k w) [ inl x ↦ x | inr x ↦ x.0 ]

  from_last : (k b : ℕ) → W (suc k) k b → W k k b
  from_last k b w = elim (split k k b w) [ inl x ↦ x | inr x ↦ x.1 ]

  -- walks that meet below k make one
  compose : (k a b c : ℕ) → b < k → W k a b → W k b c → W k a c
  compose zero a b c h p q = absurd (not-suc-le-zero h)
  compose (suc k) a b c h p q = place (eq-or-lt_of_le (le_of_suc-le-suc h)) (λ x y m u v. compose k x b y m u v)
    where
      Below : Type 0
      Below = (x y : ℕ) → b < k → W k x b → W k b y → W k x y

      cases : Below → b < k → W k a b ⊎ (W k a k × W k k b) → W k b c ⊎ (W k b k × W k k c) → W (suc k) a c
      cases ih m (inl x) (inl y) = stay k a c (ih a c m x y)
      cases ih m (inl x) (inr y) = via k a c (ih a k m x y.0) y.1
      cases ih m (inr x) (inl y) = via k a c x.0 (ih k c m x.1 y)
      cases ih m (inr x) (inr y) = via k a c x.0 y.1

      place : (b ≡ k) ⊎ (b < k) → Below → W (suc k) a c
      place (inl e) ih = via k a c (to_last k a (subst (λ x. W (suc k) a x) e p)) (from_last k c (subst (λ x. W (suc k) x c) e q))
      place (inr m) ih = cases ih m (split k a b p) (split k b c q)

  lift : (k a b : ℕ) → W zero a b → W k a b
  lift zero a b w = w
  lift (suc k) a b w = stay k a b (lift k a b w)

  pub closure_sound : {a b : ℕ} → T (look (closure? n f) a b) → TransitiveClosure E a b
  unfolding closure?
  closure_sound {a} {b} w = sound n a b w

  module _ (inside : (a b : ℕ) → T (f a b) → (a < n) × (b < n)) where
    edge : (a b : ℕ) → T (f a b) → W n a b
    edge a b t = lift n a b (look_make n f (inside a b t).0 (inside a b t).1 t)

    complete : {a b : ℕ} → TransitiveClosure E a b → W n a b
    complete (single {a} {b} t) = edge a b t
    complete (extend {a} {b} {c} p t) = compose n a b c (inside b c t).0 (complete p) (edge b c t)

    pub closure_complete : {a b : ℕ} → TransitiveClosure E a b → T (look (closure? n f) a b)
    unfolding closure?
    closure_complete p = complete p

-- ---- equal pairs make equal tables
module _ (n : ℕ) (f g : ℕ → ℕ → Bool) (same : (a b : ℕ) → a < n → b < n → f a b ≡ g a b) where
  table_same : table n f ≡ table n g
  table_same = tabulate_same (λ a. tabulate (f a) 0 n) (λ a. tabulate (g a) 0 n) 0 n (λ a l h. tabulate_same (f a) (g a) 0 n (λ b k m. same a b (omega arith) (omega arith)))

  warshall_same : (k : ℕ) → warshall n f k ≡ warshall n g k
  warshall_same zero = table_same
  warshall_same (suc k) = ap (λ (t : Table). table n (λ a b. look t a b || (look t a k && look t k b))) (warshall_same k)

  pub closure_same : closure? n f ≡ closure? n g
  unfolding closure?
  closure_same = warshall_same n
