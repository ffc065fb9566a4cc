-- Over a graph of N kinds, of which the triples have those below K only, a closure has the same triples as over one of K.
-- Assumes nothing.
use mathlib.Core.Path.{◌≡◌, refl, sym, ap, ap₂, ◌∙◌, subst}
use mathlib.Core.Bool.{Bool, cond, ◌&&◌, not}
use mathlib.Core.List.{List, [], ◌∷◌, ◌++◌}
use Prim.Native.Nat.{ℕ, zero, suc, ◌+◌, ◌-◌, ◌<◌, ◌≤◌}
use native.Mathlib.Nat.{zero-add, suc-add}
use native.Mathlib.Omega.{arith}
use lib.Dec.{T}
use Rattle.theory.specs.Lists.{guard, filter, concat_map, tabulate, range}
use Rattle.theory.specs.TransitiveClosure.{look, single}
use Rattle.theory.specs.PathExpr.{PathExpr, closure}
use Rattle.theory.specs.Inference.{Triple, triple, between, adjacent?, reach, cyclic?, leads?, meets_cyclic?, acyclic?, walks, of_closure, free, kept_closures}
use Rattle.theory.proofs.Tests.{bool_eq, never}
use Rattle.theory.proofs.TransitiveClosure.{closure_sound, closure_complete}
use Rattle.theory.proofs.Reach.{Inside, meets_walk, walk_closure, ends}
use Rattle.rows.proofs.Ranges.{some_same, some_cut}

-- ---- lists over the numbers below N, of which those of K and more have nothing
filter_same : {A : Type 0} (f g : A → Bool) (xs : List A) → ((x : A) → f x ≡ g x) → filter f xs ≡ filter g xs
filter_same f g [] e = refl
filter_same {A} f g (x ∷ xs) e = ap₂ (λ (b : Bool) (l : List A). cond b (x ∷ l) l) (e x) (filter_same f g xs e)

module _ {A : Type 0} (f : ℕ → List A) where
  each_same : (g : ℕ → List A) (ks : List ℕ) → ((k : ℕ) → f k ≡ g k) → concat_map f ks ≡ concat_map g ks
  each_same g [] e = refl
  each_same g (k ∷ ks) e = ap₂ (λ (l m : List A). l ++ m) (e k) (each_same g ks e)

  each_none : (i n : ℕ) → ((k : ℕ) → i ≤ k → k < i + n → f k ≡ []) → concat_map f (tabulate (λ k. k) i n) ≡ []
  each_none i zero e = refl
  each_none i (suc n) e = ap₂ (λ (l m : List A). l ++ m) (e i (omega arith) (omega arith)) (each_none (suc i) n (λ k l m. e k (omega arith) (omega arith)))

  each_some : (i m n : ℕ) → ((k : ℕ) → i + m ≤ k → f k ≡ []) → concat_map f (tabulate (λ k. k) i (m + n)) ≡ concat_map f (tabulate (λ k. k) i m)
  each_some i zero n e = rw (zero-add n) (each_none i n (λ k l m. e k (omega arith)))
  each_some i (suc m) n e = rw (suc-add m n) (ap (λ (l : List A). f i ++ l) (each_some (suc i) m n (λ k l. e k (omega arith))))

  each_cut : (m n : ℕ) → m ≤ n → ((k : ℕ) → m ≤ k → f k ≡ []) → concat_map f (range n) ≡ concat_map f (range m)
  each_cut m n h e =
      let q : m + (n - m) ≡ n = omega arith in
      subst (λ (k : ℕ). concat_map f (range k) ≡ concat_map f (range m)) q (each_some 0 m (n - m) (λ k l. e k (omega arith)))

module _ (K N : ℕ) (h : K ≤ N) (p : PathExpr) (f g : ℕ → ℕ → Bool) (same : (a b : ℕ) → f a b ≡ g a b) (inside : (a b : ℕ) → T (g a b) → (a < K) × (b < K)) where
  abbrev cell : (ℕ → ℕ → Bool) → ℕ → ℕ → List Triple
  cell t a b = guard (t a b) (triple a p b ∷ [])

  out : (a b : ℕ) → ((a < K) × (b < K) → ⊥) → cell g a b ≡ []
  out a b n = ap (λ (c : Bool). guard c (triple a p b ∷ [])) (never (g a b) (λ t. n (inside a b t)))

  between_same : between K p f ≡ between N p g
  between_same =
      each_same (λ a. concat_map (cell f a) (range K)) (λ a. concat_map (cell g a) (range N)) (range K)
      (λ a. each_same (cell f a) (cell g a) (range K) (λ b. ap (λ (c : Bool). guard c (triple a p b ∷ [])) (same a b))
      ∙ sym (each_cut (cell g a) K N h (λ b l. out a b (λ r. omega (arith, r.1)))))
      ∙ sym (each_cut (λ a. concat_map (cell g a) (range N)) K N h (λ a l. each_none (cell g a) 0 N (λ b m o. out a b (λ r. omega (arith, r.0)))))

-- ---- the graphs
module _ (K N : ℕ) (ts : List Triple) (inside : Inside K ts) (h : K ≤ N) where
  within : (a b : ℕ) → T (adjacent? ts a b) → (a < K) × (b < K)
  within a b e = ends K ts inside (single e)

  within_more : (a b : ℕ) → T (adjacent? ts a b) → (a < N) × (b < N)
  within_more a b e = let r = within a b e in (omega (arith, r.0), omega (arith, r.1))

  pub reach_same : (a b : ℕ) → look (reach K ts) a b ≡ look (reach N ts) a b
  unfolding reach
  reach_same a b =
      bool_eq (look (reach K ts) a b) (look (reach N ts) a b)
      (λ w. closure_complete N (adjacent? ts) within_more (closure_sound K (adjacent? ts) w))
      (λ w. closure_complete K (adjacent? ts) within (closure_sound N (adjacent? ts) w))

  reach_inside : (a b : ℕ) → T (look (reach N ts) a b) → (a < K) × (b < K)
  unfolding reach
  reach_inside a b w = ends K ts inside (closure_sound N (adjacent? ts) w)

  pub acyclic_same : (t : Triple) → acyclic? (reach K ts) t ≡ acyclic? (reach N ts) t
  acyclic_same t = ap₂ (λ (a b : Bool). not a && not b) (reach_same t.from t.from) (reach_same t.to t.to)

  pub meets_same : (a b : ℕ) → meets_cyclic? K (reach K ts) a b ≡ meets_cyclic? N (reach N ts) a b
  unfolding meets_cyclic?
  meets_same a b =
      some_same (λ z. cyclic? (reach K ts) z && (leads? (reach K ts) a z && leads? (reach K ts) z b)) (λ z. cyclic? (reach N ts) z && (leads? (reach N ts) a z && leads? (reach N ts) z b)) K
      (λ z l. rw (reach_same z z, reach_same a z, reach_same z b))
      ∙ sym (some_cut (λ z. cyclic? (reach N ts) z && (leads? (reach N ts) a z && leads? (reach N ts) z b)) K N h
      (λ z l m. rw (never (look (reach N ts) z z) (λ t. omega (arith, (reach_inside z z t).0)))))

  -- no pair meets a cyclic kind with an end of K or more
  pub meets_inside : (a b : ℕ) → T (meets_cyclic? N (reach N ts) a b) → (a < K) × (b < K)
  meets_inside a b t = ends K ts inside (walk_closure N ts more (meets_walk N ts more a b t).walk)
    where
      more : Inside N ts
      more u m = let r = inside u m in (omega (arith, r.0), omega (arith, r.1))

  pub free_same : free K ts ≡ free N ts
  free_same = filter_same (acyclic? (reach K ts)) (acyclic? (reach N ts)) ts acyclic_same

  pub kept_same : (p : PathExpr) → kept_closures K p ts ≡ kept_closures N p ts
  kept_same p = between_same K N h (closure p) (meets_cyclic? K (reach K ts)) (meets_cyclic? N (reach N ts)) meets_same meets_inside

  pub closure_wider : (p : PathExpr) → of_closure K p ts ≡ of_closure N p ts
  unfolding of_closure
  closure_wider p = ap₂ (λ (fs ks : List Triple). walks 24 fs fs ++ ks) free_same (kept_same p)
