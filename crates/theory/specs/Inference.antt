-- The triples of a part, computed as a list without repeats. proofs/Inference.antt: its elements are those of specs/Derivation.antt.
-- SPECIFICATION, Inference, Chains in inference.
-- Assumes nothing.
use Rattle.std.specs.Prelude.{Bool, ◌&&◌, ◌||◌, not, List, [], ◌∷◌, ◌++◌, ℕ, zero, suc, eqb}
use Rattle.theory.specs.Lists.{guard, filter, some?, adjoin_all, concat_map, range}
use Rattle.theory.specs.KindSet.{singleton}
use Rattle.theory.specs.TransitiveClosure.{Table, look, closure?}
use Rattle.theory.specs.PathExpr.{Direction, forward, reverse, Label, follows?, through, Op, union, conjunction, branch_right, branch_left, PathExpr, step, join, op, closure, same?}
use Rattle.theory.specs.Sheet.{Sheet, permits?}

pub record Triple : Type 0 where
  pub from : ℕ
  pub path : PathExpr
  pub to : ℕ

abbrev pub triple : ℕ → PathExpr → ℕ → Triple
triple a p b = record { from = a; path = p; to = b }

unfoldable pub triple? : Triple → Triple → Bool
triple? x y = eqb x.from y.from && eqb x.to y.to && same? x.path y.path

-- "Triples equal in all three places are one."
abbrev pub distinct : List Triple → List Triple
distinct ts = adjoin_all triple? [] ts

-- ---- a step: every two kinds that a link which it follows may join
-- some name that the label follows is permitted from a to b
abbrev pub linkable? : Sheet → Label → ℕ → ℕ → Bool
linkable? S l a b = some? (λ m. follows? l m && permits? S a m b) (range S.link_names)

abbrev pub stepped? : Sheet → Direction → Label → ℕ → ℕ → Bool
stepped? S forward l a b = linkable? S l a b
stepped? S reverse l a b = linkable? S l b a

-- the triples with path p from a to b, for each a and b below n that pass the test
abbrev pub between : ℕ → PathExpr → (ℕ → ℕ → Bool) → List Triple
between n p f = concat_map (λ a. concat_map (λ b. guard (f a b) (triple a p b ∷ [])) (range n)) (range n)

abbrev pub of_step : Sheet → Direction → Label → List Triple
of_step S d l = between S.kinds (step d l) (stepped? S d l)

-- ---- two parts: what two triples give, where they fit
abbrev pub pairs : (Triple → Triple → Bool) → (Triple → Triple → Triple) → List Triple → List Triple → List Triple
pairs fits give xs ys = concat_map (λ x. concat_map (λ y. guard (fits x y) (give x y ∷ [])) ys) xs

abbrev pub end_to_end? : Triple → Triple → Bool
end_to_end? x y = eqb x.to y.from

abbrev pub joined : Triple → Triple → Triple
joined x y = triple x.from (join (through (singleton x.to)) x.path y.path) y.to

abbrev pub of_join : List Triple → List Triple → List Triple
of_join xs ys = pairs end_to_end? joined xs ys

abbrev pub same_ends? : Triple → Triple → Bool
same_ends? x y = eqb x.from y.from && eqb x.to y.to

abbrev pub same_start? : Triple → Triple → Bool
same_start? x y = eqb x.from y.from

abbrev pub conjoined : Triple → Triple → Triple
conjoined x y = triple x.from (op conjunction x.path y.path) x.to

abbrev pub branched_right : Triple → Triple → Triple
branched_right x y = triple x.from (op branch_right x.path y.path) x.to

abbrev pub branched_left : Triple → Triple → Triple
branched_left x y = triple x.from (op branch_left x.path y.path) y.to

abbrev pub of_op : Op → List Triple → List Triple → List Triple
of_op union xs ys = xs ++ ys
of_op conjunction xs ys = pairs same_ends? conjoined xs ys
of_op branch_right xs ys = pairs end_to_end? branched_right xs ys
of_op branch_left xs ys = pairs same_start? branched_left xs ys

-- ---- a closure ("chain")
abbrev pub adjacent? : List Triple → ℕ → ℕ → Bool
adjacent? ts a b = some? (λ t. eqb t.from a && eqb t.to b) ts

-- from which of the K kinds a walk leads to which
unfoldable pub reach : ℕ → List Triple → Table
reach K ts = closure? K (adjacent? ts)

-- "ringed"
abbrev pub cyclic? : Table → ℕ → Bool
cyclic? w k = look w k k

-- a walk, or no step
abbrev pub leads? : Table → ℕ → ℕ → Bool
leads? w a b = eqb a b || look w a b

-- a walk from a to b meets a cyclic kind, ends counted
unfoldable pub meets_cyclic? : ℕ → Table → ℕ → ℕ → Bool
meets_cyclic? K w a b = some? (λ z. cyclic? w z && (leads? w a z && leads? w z b)) (range K)

-- neither end is cyclic
abbrev pub acyclic? : Table → Triple → Bool
acyclic? w t = not (cyclic? w t.from) && not (cyclic? w t.to)

-- walks that go on from those of ws by up to n triples of ts, shorter ones first
abbrev pub walks : ℕ → List Triple → List Triple → List Triple
walks zero ws ts = ws
walks (suc n) ws ts = ws ++ walks n (of_join ws ts) ts

-- the triples that meet no cyclic kind
abbrev pub free : ℕ → List Triple → List Triple
free K ts = filter (acyclic? (reach K ts)) ts

-- the original part's closure from a to b, where a walk meets one
abbrev pub kept_closures : ℕ → PathExpr → List Triple → List Triple
kept_closures K p ts = between K (closure p) (meets_cyclic? K (reach K ts))

-- The walks over the free triples, then the closures that are kept.
-- A walk of 25 triples has at least 49 symbols: with one of them the part is refused, so longer ones need no listing.
unfoldable pub of_closure : ℕ → PathExpr → List Triple → List Triple
of_closure K p ts = walks 24 (free K ts) (free K ts) ++ kept_closures K p ts

-- ---- the triples of each part
abbrev pub triples : Sheet → PathExpr → List Triple
triples S (step d l) = distinct (of_step S d l)
triples S (join v p q) = distinct (of_join (triples S p) (triples S q))
triples S (op o p q) = distinct (of_op o (triples S p) (triples S q))
triples S (closure p) = distinct (of_closure S.kinds p (triples S p))
