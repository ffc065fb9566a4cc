-- The rules of inference as relations: what the triples of a part are. specs/Inference.antt computes them.
-- SPECIFICATION, Inference, Chains in inference.
-- Assumes nothing.
use mathlib.Core.List.{List, [], ◌∷◌, Memᴰ as In}
use Rattle.std.specs.Prelude.{ℕ, T}
use Rattle.theory.specs.KindSet.{singleton}
use Rattle.theory.specs.PathExpr.{Direction, forward, reverse, Label, follows?, through, Op, union, conjunction, branch_right, branch_left, PathExpr, step, join, op, closure}
use Rattle.theory.specs.Sheet.{Sheet, permits?}

-- a set of triples: from kind, path, to kind
abbrev pub Triples : Type 1
Triples = ℕ → PathExpr → ℕ → Type 0

-- "A forward step has each permitted triple of its link. Reverse swaps A and B."
pub data Step (S : Sheet) : Direction → Label → ℕ → PathExpr → ℕ → Type 0 where
  along : {a b : ℕ} {l : Label} (m : ℕ) → T (follows? l m) → T (permits? S a m b) → Step S forward l a (step forward l) b
  back : {a b : ℕ} {l : Label} (m : ℕ) → T (follows? l m) → T (permits? S b m a) → Step S reverse l a (step reverse l) b

-- "(A, p, B) and (B, q, C) give (A, p joined through {B} to q, C)"
pub data Join (P Q : Triples) : ℕ → PathExpr → ℕ → Type 0 where
  joins : {a b c : ℕ} {p q : PathExpr} → P a p b → Q b q c → Join P Q a (join (through (singleton b)) p q) c

-- Union, both, branch right and branch left. A branch ends where its path does, not at the far kind C of its test.
pub data Operate (P Q : Triples) : Op → ℕ → PathExpr → ℕ → Type 0 where
  union_left : {a b : ℕ} {p : PathExpr} → P a p b → Operate P Q union a p b
  union_right : {a b : ℕ} {q : PathExpr} → Q a q b → Operate P Q union a q b
  conjoins : {a b : ℕ} {p q : PathExpr} → P a p b → Q a q b → Operate P Q conjunction a (op conjunction p q) b
  branches_right : {a b c : ℕ} {p q : PathExpr} → P a p b → Q b q c → Operate P Q branch_right a (op branch_right p q) b
  branches_left : {a b c : ℕ} {p q : PathExpr} → P a p c → Q a q b → Operate P Q branch_left a (op branch_left p q) b

-- "A walk is one or more of its triples end to end": the paths joined from the left through the kinds between, and the kinds met, ends counted
pub data Walk (P : Triples) : ℕ → PathExpr → ℕ → List ℕ → Type 0 where
  first : {a b : ℕ} {p : PathExpr} → P a p b → Walk P a p b (b ∷ a ∷ [])
  then : {a b c : ℕ} {p q : PathExpr} {ks : List ℕ} → Walk P a p b ks → P b q c → Walk P a (join (through (singleton b)) p q) c (c ∷ ks)

-- "A kind is ringed if a walk leads from it to itself."
pub record Cyclic (P : Triples) (k : ℕ) : Type 0 where
  pub path : PathExpr
  pub met : List ℕ
  pub walk : Walk P k path k met

-- the triples of a closure ("chain") of the part o, whose triples are P
pub data Closure (P : Triples) (o : PathExpr) : ℕ → PathExpr → ℕ → Type 0 where
  kept : {a b k : ℕ} {p : PathExpr} {ks : List ℕ} → Walk P a p b ks → In k ks → Cyclic P k → Closure P o a (closure o) b
  unrolled : {a b : ℕ} {p : PathExpr} {ks : List ℕ} → Walk P a p b ks → ((k : ℕ) → In k ks → ¬ Cyclic P k) → Closure P o a p b

-- the triples of each part
abbrev pub Derives : Sheet → PathExpr → ℕ → PathExpr → ℕ → Type 0
Derives S (step d l) = Step S d l
Derives S (join v p q) = Join (Derives S p) (Derives S q)
Derives S (op o p q) = Operate (Derives S p) (Derives S q) o
Derives S (closure p) = Closure (Derives S p) p
