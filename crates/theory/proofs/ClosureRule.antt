-- The computed triples of a closure are those of the rule, over any list of triples with kinds below K.
-- Assumes nothing.
use mathlib.Core.Path.{◌≡◌, refl, sym, subst}
use mathlib.Core.Logic.{◌⊎◌, inl, inr}
use mathlib.Core.Bool.{not}
use mathlib.Core.List.Memᴰ.{append_cases as in-append}
use mathlib.Core.List.Memᴰ.{head as here}
use mathlib.Core.List.Memᴰ.{not-nil as in-nil}
use mathlib.Core.List.Memᴰ.{tail as there}
use mathlib.Core.List.{List, [], ◌∷◌, Memᴰ as In}
use mathlib.Core.List.Memᴰ.{append_left as in_left}
use mathlib.Core.List.Memᴰ.{append_right as in_right}
use Prim.Native.Nat.{ℕ, zero, suc, ◌≤◌}
use lib.Dec.{T, T_not, not_T, eqb→eq, eqb_refl}
use Rattle.theory.specs.Lists.{filter}
use Rattle.theory.specs.PathExpr.{PathExpr, closure, size}
use Rattle.theory.specs.Derivation.{Walk, first, then, Closure, kept, unrolled}
use Rattle.theory.specs.Inference.{Triple, triple, between, end_to_end?, joined, reach, cyclic?, meets_cyclic?, acyclic?, walks, of_closure}
use Rattle.theory.proofs.Tests.{tests}
use Rattle.theory.proofs.Lists.{in_filter, filter_in}
use Rattle.theory.proofs.Triples.{Of, in_pairs, pairs_in, in_between, between_in}
use Rattle.theory.proofs.Reach.{Inside, Kept, cyclic, of_cyclic, meets_walk, walk_meets, walk_closure, ends}
use Rattle.theory.proofs.Walks.{level, in_walks, all_walks}

-- ---- the computed triples and the rule
module _ (K : ℕ) (ts : List Triple) (inside : Inside K ts) where
  abbrev Acyclic : ℕ → Type 0
  Acyclic k = T (not (cyclic? (reach K ts) k))

  -- the triples that meet no cyclic kind
  abbrev free : List Triple
  free = filter (acyclic? (reach K ts)) ts

  in_acyclic : {t : Triple} → In t free → In t ts × Acyclic t.from × Acyclic t.to
  in_acyclic {t} m =
      let r = in_filter (acyclic? (reach K ts)) ts m in
      let h : T (acyclic? (reach K ts) t) = r.1 in
      (r.0, search tests, search tests)

  acyclic_in : {t : Triple} → In t ts → Acyclic t.from → Acyclic t.to → In t free
  acyclic_in {t} m f h = filter_in (acyclic? (reach K ts)) m (search tests)

  abbrev AcyclicWalk : Triple → Type 0
  AcyclicWalk t = (ks : List ℕ) × Walk (Of ts) t.from t.path t.to ks × ((k : ℕ) → In k ks → Acyclic k)

  level_walk : (n : ℕ) {t : Triple} → In t (level free n) → AcyclicWalk t
  level_walk zero {t} m = (t.to ∷ t.from ∷ [], first (in_acyclic m).0, ends)
    where
      ends : (k : ℕ) → In k (t.to ∷ t.from ∷ []) → Acyclic k
      ends k (here e) = subst Acyclic (sym e) (in_acyclic m).2
      ends k (there (here e)) = subst Acyclic (sym e) (in_acyclic m).1
      ends k (there (there n)) = absurd (in-nil n)
  level_walk (suc n) {t} m =
      let r = in_pairs end_to_end? joined (level free n) free m in
      subst AcyclicWalk (sym r.given) (acyclic_then r.fst r.snd (level_walk n r.in_xs) (in_acyclic r.in_ys) (eqb→eq r.fst.to r.snd.from r.fit))
    where
      acyclic_then : (x y : Triple) → AcyclicWalk x → In y ts × Acyclic y.from × Acyclic y.to → x.to ≡ y.from → AcyclicWalk (joined x y)
      acyclic_then x y w u e = (y.to ∷ w.0, then w.1 (subst (λ z. In (triple z y.path y.to) ts) (sym e) u.0), met)
        where
          met : (k : ℕ) → In k (y.to ∷ w.0) → Acyclic k
          met k (here f) = subst Acyclic (sym f) u.2
          met k (there i) = w.2 k i

  walk_end : {a b : ℕ} {p : PathExpr} {ks : List ℕ} → Walk (Of ts) a p b ks → In b ks
  walk_end (first m) = here refl
  walk_end (then w m) = here refl

  walk_level : {a b : ℕ} {p : PathExpr} {ks : List ℕ} → Walk (Of ts) a p b ks → ((k : ℕ) → In k ks → Acyclic k)
      → (n : ℕ) × In (triple a p b) (level free n)
  walk_level (first {a} {b} m) un = (0, acyclic_in m (un a (there (here refl))) (un b (here refl)))
  walk_level (then {b = b} {c = c} w m) un =
      let r = walk_level w (λ k i. un k (there i)) in
      (suc r.0, pairs_in end_to_end? joined r.1 (acyclic_in m (un b (there (walk_end w))) (un c (here refl))) (eqb_refl b))

  pub in_closure : (o : PathExpr) {t : Triple} → In t (of_closure K o ts) → Closure (Of ts) o t.from t.path t.to
  unfolding of_closure
  in_closure o {t} m = go (in-append (walks 24 free free) m)
    where
      C : Triple → Type 0
      C u = Closure (Of ts) o u.from u.path u.to

      as_kept : {a b : ℕ} → Kept K ts inside a b → C (triple a (closure o) b)
      as_kept k = kept k.walk k.at_met k.at_cyclic

      go : In t (walks 24 free free) ⊎ In t (between K (closure o) (meets_cyclic? K (reach K ts))) → C t
      go (inl i) =
          let j = in_walks free 24 0 i in
          let v = level_walk j.0 j.1 in
          unrolled v.1 (λ k n r. T_not (cyclic? (reach K ts) k) (v.2 k n) (of_cyclic K ts inside r))
      go (inr i) =
          let r = in_between K (closure o) (meets_cyclic? K (reach K ts)) i in
          subst C (sym r.3) (as_kept (meets_walk K ts inside r.0 r.1 r.2))

  pub closure_in : (o : PathExpr) → ((t : Triple) → In t (of_closure K o ts) → size t.path ≤ 48)
      → {a b : ℕ} {p : PathExpr} → Closure (Of ts) o a p b → In (triple a p b) (of_closure K o ts)
  unfolding of_closure
  closure_in o short (kept w i r) =
      let e = ends K ts inside (walk_closure K ts inside w) in
      in_right (walks 24 free free) (between_in K (closure o) (meets_cyclic? K (reach K ts)) e.0 e.1 (walk_meets K ts inside w i r))
  closure_in o short (unrolled w un) =
      let kepts = between K (closure o) (meets_cyclic? K (reach K ts)) in
      let l = walk_level w (λ k i. not_T (cyclic? (reach K ts) k) (λ t. un k i (cyclic K ts inside t))) in
      in_left kepts (all_walks free (λ t i. short t (in_left kepts i)) l.0 l.1)
