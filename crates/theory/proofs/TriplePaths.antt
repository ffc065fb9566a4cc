-- What holds of the paths of all triples of a question: their links are the question's; joins have sets, but for those in kept closures.
-- Assumes nothing.
use mathlib.Core.Path.{sym, subst}
use mathlib.Core.Logic.{inl, inr}
use mathlib.Core.Bool.{Bool}
use mathlib.Core.List.Memᴰ.{append_cases as in-append}
use mathlib.Core.List.{List, ◌++◌, Memᴰ as In}
use Prim.Native.Nat.{ℕ, zero, suc, ◌<◌}
use lib.Pow.{pow_pos}
use lib.Dec.{T}
use Rattle.theory.specs.Lists.{filter}
use Rattle.theory.specs.KindSet.{singleton}
use Rattle.theory.specs.PathExpr.{Direction, Label, Via, any, through, Op, union, conjunction, branch_right, branch_left, PathExpr, step, join, op, closure, plain?, links?}
use Rattle.theory.specs.Sheet.{Sheet}
use Rattle.theory.specs.Inference.{Triple, stepped?, between, of_step, pairs, end_to_end?, joined, of_join, same_ends?, same_start?, conjoined, branched_right, branched_left, of_op}
use Rattle.theory.specs.Inference.{reach, meets_cyclic?, acyclic?, walks, of_closure, triples}
use Rattle.theory.specs.JoinSets.{Inferred}
use Rattle.theory.proofs.Tests.{and_left, and_right, and_both}
use Rattle.theory.proofs.Lists.{in_filter}
use Rattle.theory.proofs.Triples.{in_distinct, in_pairs, in_between}

-- ---- what holds of the paths of all triples of a question: O of the question's parts, P of the paths
pub record Paths (O P : PathExpr → Type 0) : Type 0 where
  pub steps : (d : Direction) (l : Label) → O (step d l) → P (step d l)
  pub joins : (k : ℕ) (p q : PathExpr) → P p → P q → P (join (through (singleton k)) p q)
  pub ops : (o : Op) (p q : PathExpr) → P p → P q → P (op o p q)
  pub closures : (p : PathExpr) → O (closure p) → P (closure p)
  pub join_parts : (v : Via) (p q : PathExpr) → O (join v p q) → O p × O q
  pub op_parts : (o : Op) (p q : PathExpr) → O (op o p q) → O p × O q
  pub closure_part : (p : PathExpr) → O (closure p) → O p

module _ (S : Sheet) (O P : PathExpr → Type 0) (h : Paths O P) where
  abbrev Each : List Triple → Type 0
  Each ts = (t : Triple) → In t ts → P t.path

  of_pairs : (fits : Triple → Triple → Bool) (give : Triple → Triple → Triple) → ((x y : Triple) → P x.path → P y.path → P (give x y).path)
      → (xs ys : List Triple) → Each xs → Each ys → Each (pairs fits give xs ys)
  of_pairs fits give f xs ys hx hy t m =
      let r = in_pairs fits give xs ys m in
      subst (λ u. P u.path) (sym r.given) (f r.fst r.snd (hx r.fst r.in_xs) (hy r.snd r.in_ys))

  of_between : (n : ℕ) (p : PathExpr) (f : ℕ → ℕ → Bool) → P p → Each (between n p f)
  of_between n p f x t m = subst (λ u. P u.path) (sym (in_between n p f m).3) x

  of_both : (xs ys : List Triple) → Each xs → Each ys → Each (xs ++ ys)
  of_both xs ys hx hy t m = elim (in-append xs m) [ inl n ↦ hx t n | inr n ↦ hy t n ]

  of_joined : (xs ys : List Triple) → Each xs → Each ys → Each (of_join xs ys)
  of_joined = of_pairs end_to_end? joined (λ x y. h.joins x.to x.path y.path)

  of_operated : (o : Op) (xs ys : List Triple) → Each xs → Each ys → Each (of_op o xs ys)
  of_operated union = of_both
  of_operated conjunction = of_pairs same_ends? conjoined (λ x y. h.ops conjunction x.path y.path)
  of_operated branch_right = of_pairs end_to_end? branched_right (λ x y. h.ops branch_right x.path y.path)
  of_operated branch_left = of_pairs same_start? branched_left (λ x y. h.ops branch_left x.path y.path)

  of_walks : (n : ℕ) (ws ts : List Triple) → Each ws → Each ts → Each (walks n ws ts)
  of_walks zero ws ts hw ht = hw
  of_walks (suc n) ws ts hw ht = of_both ws (walks n (of_join ws ts) ts) hw (of_walks n (of_join ws ts) ts (of_joined ws ts hw ht) ht)

  of_closed : (K : ℕ) (p : PathExpr) (ts : List Triple) → P (closure p) → Each ts → Each (of_closure K p ts)
  unfolding of_closure
  of_closed K p ts x ht =
      let w = reach K ts in
      let free : List Triple = filter (acyclic? w) ts in
      let hf : Each free = λ t m. ht t (in_filter (acyclic? w) ts m).0 in
      of_both (walks 24 free free) (between K (closure p) (meets_cyclic? K w)) (of_walks 24 free free hf hf) (of_between K (closure p) (meets_cyclic? K w) x)

  pub triples_paths : (q : PathExpr) → O q → (t : Triple) → In t (triples S q) → P t.path
  triples_paths (step d l) x t m = of_between S.kinds (step d l) (stepped? S d l) (h.steps d l x) t (in_distinct (of_step S d l) m)
  triples_paths (join v p q) x t m =
      let y = h.join_parts v p q x in
      of_joined (triples S p) (triples S q) (triples_paths p y.0) (triples_paths q y.1) t (in_distinct (of_join (triples S p) (triples S q)) m)
  triples_paths (op o p q) x t m =
      let y = h.op_parts o p q x in
      of_operated o (triples S p) (triples S q) (triples_paths p y.0) (triples_paths q y.1) t (in_distinct (of_op o (triples S p) (triples S q)) m)
  triples_paths (closure p) x t m =
      of_closed S.kinds p (triples S p) (h.closures p x) (triples_paths p (h.closure_part p x)) t (in_distinct (of_closure S.kinds p (triples S p)) m)

-- the links of its paths are those of the question
linked_paths : Paths (λ p. T (links? 64 p)) (λ p. T (links? 64 p))
linked_paths = record {
  steps = λ d l x. x;
  joins = λ k p q x y. and_both (links? 64 p) (links? 64 q) x y;
  ops = λ o p q x y. and_both (links? 64 p) (links? 64 q) x y;
  closures = λ p x. x;
  join_parts = λ v p q x. (and_left (links? 64 p) (links? 64 q) x, and_right (links? 64 p) (links? 64 q) x);
  op_parts = λ o p q x. (and_left (links? 64 p) (links? 64 q) x, and_right (links? 64 p) (links? 64 q) x);
  closure_part = λ p x. x;
}

pub triples_linked : (S : Sheet) (q : PathExpr) → T (links? 64 q) → (t : Triple) → In t (triples S q) → T (links? 64 t.path)
triples_linked S q x = triples_paths S (λ p. T (links? 64 p)) (λ p. T (links? 64 p)) linked_paths q x

-- its joins have sets outside kept closures, and none inside
singleton_pos : (k : ℕ) → 0 < singleton k
unfolding singleton
singleton_pos k = pow_pos k

pub inferred_paths : Paths (λ p. T (plain? p)) Inferred
inferred_paths = record {
  steps = λ d l x. tt;
  joins = λ k p q x y. (singleton_pos k, (x, y));
  ops = λ o p q x y. (x, y);
  closures = λ p x. x;
  join_parts = plain_parts;
  op_parts = λ o p q x. (and_left (plain? p) (plain? q) x, and_right (plain? p) (plain? q) x);
  closure_part = λ p x. x;
}
  where
    plain_parts : (v : Via) (p q : PathExpr) → T (plain? (join v p q)) → T (plain? p) × T (plain? q)
    plain_parts any p q x = (and_left (plain? p) (plain? q) x, and_right (plain? p) (plain? q) x)
    plain_parts (through m) p q x = absurd x

pub triples_inferred : (S : Sheet) (q : PathExpr) → T (plain? q) → (t : Triple) → In t (triples S q) → Inferred t.path
triples_inferred S q x = triples_paths S (λ p. T (plain? p)) Inferred inferred_paths q x
