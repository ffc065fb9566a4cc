-- The computed triples of a part are those of the rules, where no part is refused for the length of its paths.
-- Assumes nothing.
use mathlib.Core.Path.{◌≡◌, refl, sym, subst}
use mathlib.Core.Logic.{◌⊎◌, inl, inr}
use mathlib.Core.List.Memᴰ.{append_cases as in-append}
use mathlib.Core.List.Memᴰ.{append_left as in_left}
use mathlib.Core.List.Memᴰ.{append_right as in_right}
use mathlib.Core.List.Memᴰ.{head as here}
use mathlib.Core.List.{List, [], ◌∷◌, ◌++◌, Memᴰ as In}
use Prim.Native.Nat.{ℕ, ◌≤◌}
use lib.Dec.{T, eqb→eq, eqb_refl, leb, leb→le}
use Rattle.theory.specs.PathExpr.{Direction, forward, reverse, Label, Via, Op, union, conjunction, branch_right, branch_left, PathExpr, step, join, op, closure, size, parts}
use Rattle.theory.specs.Sheet.{Sheet, sheet?}
use Rattle.theory.specs.Derivation.{Triples, Step, along, back, Join, joins, Operate, union_left, union_right, conjoins, branches_right, branches_left, Derives}
use Rattle.theory.specs.Inference.{Triple, triple, stepped?, of_step, of_join, end_to_end?, joined, same_ends?, same_start?, conjoined, branched_right, branched_left, of_op, of_closure, triples}
use Rattle.theory.specs.Narrowing.{short?}
use Rattle.theory.proofs.Tests.{tests}
use Rattle.theory.proofs.Lists.{every_in}
use Rattle.theory.proofs.Rules.{Sub, join_map, op_map, closure_rule_map}
use Rattle.theory.proofs.Triples.{Of, Same, same_trans, distinct_same, distinct_in, in_pairs, pairs_in, in_between, between_in}
use Rattle.theory.proofs.Sheet.{permits_inside}
use Rattle.theory.proofs.Labels.{find_linkable, found_linkable}
use Rattle.theory.proofs.KindsOfSheet.{derives_inside}
use Rattle.theory.proofs.Reach.{Inside}
use Rattle.theory.proofs.ClosureRule.{in_closure, closure_in}

-- ---- each rule over lists of triples
module _ (S : Sheet) (ok : T (sheet? S)) where
  stepped : (d : Direction) (l : Label) (a b : ℕ) → T (stepped? S d l a b) → Step S d l a (step d l) b
  stepped forward l a b t = let (m, f, p) = find_linkable S l a b t in along m f p
  stepped reverse l a b t = let (m, f, p) = find_linkable S l b a t in back m f p

  in_step : (d : Direction) (l : Label) {t : Triple} → In t (of_step S d l) → Step S d l t.from t.path t.to
  in_step d l m =
      let r = in_between S.kinds (step d l) (stepped? S d l) m in
      subst (λ u. Step S d l u.from u.path u.to) (sym r.3) (stepped d l r.0 r.1 r.2)

  step_in : {d : Direction} {l : Label} {a b : ℕ} {p : PathExpr} → Step S d l a p b → Of (of_step S d l) a p b
  step_in (along {a} {b} {l} m f t) = let i = permits_inside S ok t in between_in S.kinds (step forward l) (stepped? S forward l) i.0 i.2 (found_linkable S ok l a m b f t)
  step_in (back {a} {b} {l} m f t) = let i = permits_inside S ok t in between_in S.kinds (step reverse l) (stepped? S reverse l) i.2 i.0 (found_linkable S ok l b m a f t)

  step_list : (d : Direction) (l : Label) → Same (Of (of_step S d l)) (Step S d l)
  step_list d l a p b = (λ m. in_step d l m, λ r. step_in r)

module _ (xs ys : List Triple) where
  -- a triple of ys, from the kind that another triple ends in
  from_kind : {a : ℕ} (y : Triple) → a ≡ y.from → In y ys → In (triple a y.path y.to) ys
  from_kind y e m = subst (λ k. In (triple k y.path y.to) ys) (sym e) m

  in_join : {t : Triple} → In t (of_join xs ys) → Join (Of xs) (Of ys) t.from t.path t.to
  in_join m =
      let r = in_pairs end_to_end? joined xs ys m in
      subst (λ u. Join (Of xs) (Of ys) u.from u.path u.to) (sym r.given)
      (joins r.in_xs (from_kind r.snd (eqb→eq r.fst.to r.snd.from r.fit) r.in_ys))

  join_in : {a b : ℕ} {p : PathExpr} → Join (Of xs) (Of ys) a p b → Of (of_join xs ys) a p b
  join_in (joins {b = k} m n) = pairs_in end_to_end? joined m n (eqb_refl k)

  join_list : Same (Of (of_join xs ys)) (Join (Of xs) (Of ys))
  join_list a p b = (λ m. in_join m, λ r. join_in r)

  abbrev O : Op → Triple → Type 0
  O o u = Operate (Of xs) (Of ys) o u.from u.path u.to

  in_op : (o : Op) {t : Triple} → In t (of_op o xs ys) → O o t
  in_op union {t} m = go (in-append xs m)
    where
      go : In t xs ⊎ In t ys → O union t
      go (inl i) = union_left i
      go (inr i) = union_right i
  in_op conjunction m =
      let r = in_pairs same_ends? conjoined xs ys m in
      let x = r.fst in
      let y = r.snd in
      let h : T (same_ends? x y) = r.fit in
      let f : x.from ≡ y.from = search (tests, eqb→eq) in
      let g : x.to ≡ y.to = search (tests, eqb→eq) in
      subst (O conjunction) (sym r.given) (conjoins r.in_xs (subst (λ k. In (triple x.from y.path k) ys) (sym g) (from_kind y f r.in_ys)))
  in_op branch_right m =
      let r = in_pairs end_to_end? branched_right xs ys m in
      subst (O branch_right) (sym r.given) (branches_right r.in_xs (from_kind r.snd (eqb→eq r.fst.to r.snd.from r.fit) r.in_ys))
  in_op branch_left m =
      let r = in_pairs same_start? branched_left xs ys m in
      subst (O branch_left) (sym r.given) (branches_left r.in_xs (from_kind r.snd (eqb→eq r.fst.from r.snd.from r.fit) r.in_ys))

  op_in : {o : Op} {a b : ℕ} {p : PathExpr} → Operate (Of xs) (Of ys) o a p b → Of (of_op o xs ys) a p b
  op_in (union_left m) = in_left ys m
  op_in (union_right n) = in_right xs n
  op_in (conjoins {a = a} {b = b} m n) = pairs_in same_ends? conjoined m n (search (tests, eqb_refl))
  op_in (branches_right {b = b} m n) = pairs_in end_to_end? branched_right m n (eqb_refl b)
  op_in (branches_left {a = a} m n) = pairs_in same_start? branched_left m n (eqb_refl a)

  op_list : (o : Op) → Same (Of (of_op o xs ys)) (Operate (Of xs) (Of ys) o)
  op_list o a p b = (λ m. in_op o m, λ r. op_in r)

pub to_sub : {P Q : Triples} → Same P Q → Sub P Q
to_sub s a p b x = (s a p b).0 x

pub from_sub : {P Q : Triples} → Same P Q → Sub Q P
from_sub s a p b x = (s a p b).1 x

-- ---- no part is refused for the length of its paths
abbrev pub Short : Sheet → PathExpr → Type 0
Short S o = (p : PathExpr) → In p (parts o) → T (short? (triples S p))

module _ (S : Sheet) where
  pub short_join_left : (v : Via) (p q : PathExpr) → Short S (join v p q) → Short S p
  short_join_left v p q h u m = h u (in_left (parts q ++ (join v p q ∷ [])) m)

  pub short_join_right : (v : Via) (p q : PathExpr) → Short S (join v p q) → Short S q
  short_join_right v p q h u m = h u (in_right (parts p) (in_left (join v p q ∷ []) m))

  pub short_op_left : (o : Op) (p q : PathExpr) → Short S (op o p q) → Short S p
  short_op_left o p q h u m = h u (in_left (parts q ++ (op o p q ∷ [])) m)

  pub short_op_right : (o : Op) (p q : PathExpr) → Short S (op o p q) → Short S q
  short_op_right o p q h u m = h u (in_right (parts p) (in_left (op o p q ∷ []) m))

  pub short_part : (p : PathExpr) → Short S (closure p) → Short S p
  short_part p h u m = h u (in_left (closure p ∷ []) m)

  pub short_closure : (p : PathExpr) → Short S (closure p) → T (short? (triples S (closure p)))
  short_closure p h = h (closure p) (in_right (parts p) (here refl))

module _ (S : Sheet) (ok : T (sheet? S)) where
  abbrev pub Exact : PathExpr → Type 0
  Exact o = Same (Of (triples S o)) (Derives S o)

  pub inside : (o : PathExpr) → Exact o → Inside S.kinds (triples S o)
  inside o s t m = derives_inside S ok o t.from t.path t.to ((s t.from t.path t.to).0 m)

  pub closure_size : (o : PathExpr) → T (short? (triples S (closure o))) → (t : Triple) → In t (of_closure S.kinds o (triples S o)) → size t.path ≤ 48
  closure_size o h t m =
      leb→le (size t.path) 48
      (every_in (λ u. leb (size u.path) 48) h (distinct_in m))

  pub step_exact : (d : Direction) (l : Label) → Exact (step d l)
  step_exact d l = same_trans (distinct_same (of_step S d l)) (step_list S ok d l)

  pub join_exact : (v : Via) (p q : PathExpr) → Exact p → Exact q → Exact (join v p q)
  join_exact v p q sp sq =
      same_trans (distinct_same (of_join (triples S p) (triples S q)))
      (same_trans (join_list (triples S p) (triples S q))
      (λ a r b. (λ x. join_map (to_sub sp) (to_sub sq) x, λ x. join_map (from_sub sp) (from_sub sq) x)))

  pub op_exact : (o : Op) (p q : PathExpr) → Exact p → Exact q → Exact (op o p q)
  op_exact o p q sp sq =
      same_trans (distinct_same (of_op o (triples S p) (triples S q)))
      (same_trans (op_list (triples S p) (triples S q) o)
      (λ a r b. (λ x. op_map (to_sub sp) (to_sub sq) x, λ x. op_map (from_sub sp) (from_sub sq) x)))

  closure_exact : (p : PathExpr) → Exact p → T (short? (triples S (closure p))) → Exact (closure p)
  closure_exact p sp h =
      same_trans (distinct_same (of_closure S.kinds p (triples S p)))
      (λ a r b. (
        λ m. closure_rule_map (to_sub sp) (from_sub sp) (in_closure S.kinds (triples S p) (inside p sp) p m),
        λ c. closure_in S.kinds (triples S p) (inside p sp) p (closure_size p h) (closure_rule_map (from_sub sp) (to_sub sp) c),
      ))

  -- membership in the computed list is the relation
  pub exact : (o : PathExpr) → Short S o → Exact o
  exact (step d l) h = step_exact d l
  exact (join v p q) h = join_exact v p q (exact p (short_join_left S v p q h)) (exact q (short_join_right S v p q h))
  exact (op o p q) h = op_exact o p q (exact p (short_op_left S o p q h)) (exact q (short_op_right S o p q h))
  exact (closure p) h = closure_exact p (exact p (short_part S p h)) (short_closure S p h)
