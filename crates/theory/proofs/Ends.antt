-- The kinds of a part's triples, as they are listed, are the sheet's.
-- Assumes nothing.
use mathlib.Core.Path.{sym, subst}
use mathlib.Core.Logic.{⊎_elim}
use mathlib.Core.Bool.{Bool}
use mathlib.Core.List.Memᴰ.{append_cases as in-append}
use mathlib.Core.List.{List}
use Prim.Native.Nat.{ℕ, zero, suc, ◌<◌}
use Rattle.theory.specs.PathExpr.{Op, union, conjunction, branch_right, branch_left, PathExpr, step, join, op, closure}
use Rattle.theory.specs.Sheet.{Sheet}
use Rattle.theory.specs.Inference.{Triple, stepped?, of_step, pairs, end_to_end?, same_ends?, same_start?, joined, conjoined, branched_right, branched_left, of_join, of_op, reach}
use Rattle.theory.specs.Inference.{meets_cyclic?, acyclic?, walks, of_closure, triples, free}
use Rattle.theory.proofs.Lists.{in_filter}
use Rattle.theory.proofs.Triples.{in_distinct, in_pairs, between_ends}
use Rattle.theory.proofs.Reach.{Inside}
use Rattle.theory.proofs.Walks.{level, in_walks}

module _ (K : ℕ) where
  -- what pairs give has the ends of the two
  pairs_inside : (fits : Triple → Triple → Bool) (give : Triple → Triple → Triple)
      → ((x y : Triple) → (x.from < K) × (x.to < K) → (y.from < K) × (y.to < K) → ((give x y).from < K) × ((give x y).to < K))
      → (xs ys : List Triple) → Inside K xs → Inside K ys → Inside K (pairs fits give xs ys)
  pairs_inside fits give ends xs ys hx hy t m =
      let r = in_pairs fits give xs ys m in
      subst (λ (u : Triple). (u.from < K) × (u.to < K)) (sym r.given) (ends r.fst r.snd (hx r.fst r.in_xs) (hy r.snd r.in_ys))

  join_inside : (xs ys : List Triple) → Inside K xs → Inside K ys → Inside K (of_join xs ys)
  join_inside = pairs_inside end_to_end? joined (λ x y a b. (a.0, b.1))

  op_inside : (o : Op) (xs ys : List Triple) → Inside K xs → Inside K ys → Inside K (of_op o xs ys)
  op_inside union xs ys = λ hx hy t m. ⊎_elim (hx t) (hy t) (in-append xs m)
  op_inside conjunction xs ys = pairs_inside same_ends? conjoined (λ x y a b. a) xs ys
  op_inside branch_right xs ys = pairs_inside end_to_end? branched_right (λ x y a b. a) xs ys
  op_inside branch_left xs ys = pairs_inside same_start? branched_left (λ x y a b. (a.0, b.1)) xs ys

  level_inside : (fs : List Triple) → Inside K fs → (j : ℕ) → Inside K (level fs j)
  level_inside fs h zero = h
  level_inside fs h (suc j) = join_inside (level fs j) fs (level_inside fs h j) h

  closure_inside : (p : PathExpr) (ts : List Triple) → Inside K ts → Inside K (of_closure K p ts)
  unfolding of_closure
  closure_inside p ts h t m =
      ⊎_elim
      (λ i. let j = in_walks (free K ts) 24 0 i in level_inside (free K ts) (λ u k. h u (in_filter (acyclic? (reach K ts)) ts k).0) j.0 t j.1)
      (λ i. between_ends K (closure p) (meets_cyclic? K (reach K ts)) i)
      (in-append (walks 24 (free K ts) (free K ts)) m)

pub triples_inside : (S : Sheet) (p : PathExpr) → Inside S.kinds (triples S p)
triples_inside S (step d l) t m = between_ends S.kinds (step d l) (stepped? S d l) (in_distinct (of_step S d l) m)
triples_inside S (join v p q) t m =
    join_inside S.kinds (triples S p) (triples S q) (triples_inside S p) (triples_inside S q) t (in_distinct (of_join (triples S p) (triples S q)) m)
triples_inside S (op o p q) t m =
    op_inside S.kinds o (triples S p) (triples S q) (triples_inside S p) (triples_inside S q) t (in_distinct (of_op o (triples S p) (triples S q)) m)
triples_inside S (closure p) t m =
    closure_inside S.kinds p (triples S p) (triples_inside S p) t (in_distinct (of_closure S.kinds p (triples S p)) m)
