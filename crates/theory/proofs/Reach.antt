-- Walks of the rules and walks between kinds: which kinds are cyclic, and which pairs of kinds have a walk that meets one.
-- Assumes nothing.
use mathlib.Core.Path.{◌≡◌, refl, sym, subst}
use mathlib.Core.Logic.{◌⊎◌, inl, inr}
use mathlib.Core.Bool.{◌&&◌, not}
use mathlib.Core.List.Memᴰ.{head as here}
use mathlib.Core.List.Memᴰ.{not-nil as in-nil}
use mathlib.Core.List.Memᴰ.{tail as there}
use mathlib.Core.List.{List, [], ◌∷◌, Memᴰ as In}
use Prim.Native.Nat.{ℕ, ◌<◌}
use lib.Dec.{T, T_not, eqb, eqb→eq, eqb_refl}
use Rattle.theory.specs.Lists.{some?, range}
use Rattle.theory.specs.KindSet.{singleton}
use Rattle.theory.specs.TransitiveClosure.{TransitiveClosure, single, extend, Table, look}
use Rattle.theory.specs.PathExpr.{through, PathExpr, join}
use Rattle.theory.specs.Derivation.{Walk, first, then, Cyclic}
use Rattle.theory.specs.Inference.{Triple, triple, adjacent?, reach, cyclic?, leads?, meets_cyclic?}
use Rattle.theory.proofs.Tests.{tests, and_left, or_left, or_right, or_cases, test, eq→eqb}
use Rattle.theory.proofs.Lists.{some_in, in_some, range_in}
use Rattle.theory.proofs.TransitiveClosure.{closure_sound, closure_complete}
use Rattle.theory.proofs.Triples.{Of}

abbrev pub Inside : ℕ → List Triple → Type 0
Inside K ts = (t : Triple) → In t ts → (t.from < K) × (t.to < K)

module _ (K : ℕ) (ts : List Triple) (inside : Inside K ts) where
  abbrev E : ℕ → ℕ → Type 0
  E a b = T (adjacent? ts a b)

  adjacent_in : {a b : ℕ} {p : PathExpr} → In (triple a p b) ts → E a b
  adjacent_in {a} {b} m = in_some (λ t. eqb t.from a && eqb t.to b) m (search (tests, eqb_refl))

  adjacent_from : {a b : ℕ} → E a b → (p : PathExpr) × In (triple a p b) ts
  adjacent_from {a} {b} e =
      let r = some_in (λ t. eqb t.from a && eqb t.to b) ts e in
      let t = r.0 in
      let h : T (eqb t.from a && eqb t.to b) = r.2 in
      let f : t.from ≡ a = search (tests, eqb→eq) in
      let g : t.to ≡ b = search (tests, eqb→eq) in
      (t.path, subst (λ u. In u ts) (λ i. record { from = f i; path = t.path; to = g i }) r.1)

  adjacent_inside : (a b : ℕ) → E a b → (a < K) × (b < K)
  adjacent_inside a b e = let r = adjacent_from e in inside (triple a r.0 b) r.1

  reach_sound : {a b : ℕ} → T (look (reach K ts) a b) → TransitiveClosure E a b
  unfolding reach
  reach_sound w = closure_sound K (adjacent? ts) w

  reach_complete : {a b : ℕ} → TransitiveClosure E a b → T (look (reach K ts) a b)
  unfolding reach
  reach_complete p = closure_complete K (adjacent? ts) adjacent_inside p

  pub walk_closure : {a b : ℕ} {p : PathExpr} {ks : List ℕ} → Walk (Of ts) a p b ks → TransitiveClosure E a b
  walk_closure (first m) = single (adjacent_in m)
  walk_closure (then w m) = extend (walk_closure w) (adjacent_in m)

  pub closure_walk : {a b : ℕ} → TransitiveClosure E a b → (p : PathExpr) × (ks : List ℕ) × Walk (Of ts) a p b ks × In b ks
  closure_walk (single {a} {b} e) = let r = adjacent_from e in (r.0, b ∷ a ∷ [], first r.1, here refl)
  closure_walk (extend {b = b} {c = c} q e) =
      let w = closure_walk q in
      let r = adjacent_from e in
      (join (through (singleton b)) w.0 r.0, c ∷ w.1, then w.2 r.1, here refl)

  walk_append : {a b c : ℕ} {p q : PathExpr} {ks ls : List ℕ} → Walk (Of ts) a p b ks → Walk (Of ts) b q c ls
      → (r : PathExpr) × (ms : List ℕ) × Walk (Of ts) a r c ms × ((k : ℕ) → In k ks → In k ms)
  walk_append {b = b} {p = p} {ks = ks} w (first {b = c} {p = q} m) = (join (through (singleton b)) p q, c ∷ ks, then w m, λ k i. there i)
  walk_append w (then {b = b} {c = c} {q = q} v m) =
      let r = walk_append w v in
      (join (through (singleton b)) r.0 q, c ∷ r.1, then r.2 m, λ k i. there (r.3 k i))

  pub cyclic : {k : ℕ} → T (cyclic? (reach K ts) k) → Cyclic (Of ts) k
  cyclic w = let r = closure_walk (reach_sound w) in record { path = r.0; met = r.1; walk = r.2 }

  pub of_cyclic : {k : ℕ} → Cyclic (Of ts) k → T (cyclic? (reach K ts) k)
  of_cyclic r = reach_complete (walk_closure r.walk)

  -- ---- a walk that meets a ringed kind
  pub record Kept (a b : ℕ) : Type 0 where
    pub path : PathExpr
    pub met : List ℕ
    pub walk : Walk (Of ts) a path b met
    pub at : ℕ
    pub at_met : In at met
    pub at_cyclic : Cyclic (Of ts) at

  leads : (a b : ℕ) → T (leads? (reach K ts) a b) → (a ≡ b) ⊎ TransitiveClosure E a b
  leads a b t = elim (or_cases (eqb a b) (look (reach K ts) a b) t) [ inl e ↦ inl (eqb→eq a b e) | inr w ↦ inr (reach_sound w) ]

  of_leads : {a b : ℕ} → (a ≡ b) ⊎ TransitiveClosure E a b → T (leads? (reach K ts) a b)
  of_leads {a} {b} (inl e) = or_left (eqb a b) (look (reach K ts) a b) (eq→eqb a b e)
  of_leads {a} {b} (inr p) = or_right (eqb a b) (look (reach K ts) a b) (reach_complete p)

  pub meets_walk : (a b : ℕ) → T (meets_cyclic? K (reach K ts) a b) → Kept a b
  unfolding meets_cyclic?
  meets_walk a b t = let h = found.2 in from_a (leads a z (search tests)) (leads z b (search tests))
    where
      w : Table
      w = reach K ts

      found : (z : ℕ) × In z (range K) × T (cyclic? w z && (leads? w a z && leads? w z b))
      found = some_in (λ z. cyclic? w z && (leads? w a z && leads? w z b)) (range K) t

      z : ℕ
      z = found.0

      ring : T (cyclic? w z)
      ring = and_left (cyclic? w z) (leads? w a z && leads? w z b) found.2

      to_b : TransitiveClosure E a z → (z ≡ b) ⊎ TransitiveClosure E z b → Kept a b
      to_b p (inl e) =
          let v = closure_walk p in
          subst (λ x. Kept a x) e (record { path = v.0; met = v.1; walk = v.2; at = z; at_met = v.3; at_cyclic = cyclic ring })
      to_b p (inr q) =
          let v = closure_walk p in
          let r = walk_append v.2 (closure_walk q).2 in
          record { path = r.0; met = r.1; walk = r.2; at = z; at_met = r.3 z v.3; at_cyclic = cyclic ring }

      from_a : (a ≡ z) ⊎ TransitiveClosure E a z → (z ≡ b) ⊎ TransitiveClosure E z b → Kept a b
      from_a (inl e) q = to_b (subst (λ x. TransitiveClosure E x z) (sym e) (reach_sound ring)) q
      from_a (inr p) q = to_b p q

  cut : {a b k : ℕ} {p : PathExpr} {ks : List ℕ} → Walk (Of ts) a p b ks → In k ks → ((a ≡ k) ⊎ TransitiveClosure E a k) × ((k ≡ b) ⊎ TransitiveClosure E k b)
  cut (first {a} {b} m) i = at_first i
    where
      at_first : {k : ℕ} → In k (b ∷ a ∷ []) → ((a ≡ k) ⊎ TransitiveClosure E a k) × ((k ≡ b) ⊎ TransitiveClosure E k b)
      at_first (here e) = (inr (subst (λ x. TransitiveClosure E a x) (sym e) (single (adjacent_in m))), inl e)
      at_first (there (here e)) = (inl (sym e), inr (subst (λ x. TransitiveClosure E x b) (sym e) (single (adjacent_in m))))
      at_first (there (there n)) = absurd (in-nil n)
  cut {k = k} (then {a} {b} {c} {ks = ks} w m) i = at_then i (λ j. cut w j)
    where
      on : (k ≡ b) ⊎ TransitiveClosure E k b → TransitiveClosure E k c
      on (inl e) = subst (λ x. TransitiveClosure E x c) (sym e) (single (adjacent_in m))
      on (inr q) = extend q (adjacent_in m)

      at_then : In k (c ∷ ks) → (In k ks → ((a ≡ k) ⊎ TransitiveClosure E a k) × ((k ≡ b) ⊎ TransitiveClosure E k b)) → ((a ≡ k) ⊎ TransitiveClosure E a k) × ((k ≡ c) ⊎ TransitiveClosure E k c)
      at_then (here e) rest = (inr (subst (λ x. TransitiveClosure E a x) (sym e) (extend (walk_closure w) (adjacent_in m))), inl e)
      at_then (there j) rest = ((rest j).0, inr (on (rest j).1))

  pub ends : {a b : ℕ} → TransitiveClosure E a b → (a < K) × (b < K)
  ends (single {a} {b} e) = adjacent_inside a b e
  ends (extend {b = b} {c = c} p e) = ((ends p).0, (adjacent_inside b c e).1)

  pub walk_meets : {a b k : ℕ} {p : PathExpr} {ks : List ℕ} → Walk (Of ts) a p b ks → In k ks → Cyclic (Of ts) k → T (meets_cyclic? K (reach K ts) a b)
  unfolding meets_cyclic?
  walk_meets {a} {b} {k} w i r =
      let v = reach K ts in
      let c = cut w i in
      in_some (λ z. cyclic? v z && (leads? v a z && leads? v z b)) (range_in K k (ends (reach_sound (of_cyclic r))).0)
      (search (tests, of_cyclic r, of_leads c.0, of_leads c.1))

  -- a walk meets a cyclic kind or does not
  pub cyclic_met : (ks : List ℕ) → ((k : ℕ) × In k ks × Cyclic (Of ts) k) ⊎ ((k : ℕ) → In k ks → ¬ Cyclic (Of ts) k)
  cyclic_met ks = go (test (some? (cyclic? (reach K ts)) ks))
    where
      go : T (some? (cyclic? (reach K ts)) ks) ⊎ T (not (some? (cyclic? (reach K ts)) ks))
          → ((k : ℕ) × In k ks × Cyclic (Of ts) k) ⊎ ((k : ℕ) → In k ks → ¬ Cyclic (Of ts) k)
      go (inl t) = let r = some_in (cyclic? (reach K ts)) ks t in inl (r.0, r.1, cyclic r.2)
      go (inr t) = inr (λ k i r. T_not (some? (cyclic? (reach K ts)) ks) t (in_some (cyclic? (reach K ts)) i (of_cyclic r)))
