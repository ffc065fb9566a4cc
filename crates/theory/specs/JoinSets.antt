-- The join sets of a path, beside its codes, and how those of two paths of one shape compare.
-- SPECIFICATION, Merging: each join set is the union.
-- Assumes nothing.
use mathlib.Core.List.{List, map, zip_with}
use Rattle.std.specs.Prelude.{ℕ, ◌<◌, T}
use Rattle.theory.specs.KindSet.{set_union}
use Rattle.theory.specs.PathExpr.{Direction, Label, Via, any, through, Op, PathExpr, step, join, op, closure, Symbol, s_step, s_join, s_op, s_closure, postfix, plain?}

-- 0 for a symbol without a set
abbrev pub set_of : Symbol → ℕ
set_of (s_step d l) = 0
set_of (s_join any) = 0
set_of (s_join (through m)) = m
set_of (s_op o) = 0
set_of s_closure = 0

abbrev pub sets_of : PathExpr → List ℕ
sets_of p = map set_of (postfix p)

-- place by place
abbrev pub set_unions : List ℕ → List ℕ → List ℕ
set_unions xs ys = zip_with set_union xs ys

-- both joins are plain, or both have a set
pub data EvenVia : Via → Via → Type 0 where
  plain : EvenVia any any
  with_sets : {a b : ℕ} → EvenVia (through a) (through b)

-- paths of one shape whose joins are even
pub data Even : PathExpr → PathExpr → Type 0 where
  steps : {d : Direction} {l : Label} → Even (step d l) (step d l)
  joins : {v w : Via} {p q p' q' : PathExpr} → EvenVia v w → Even p p' → Even q q' → Even (join v p q) (join w p' q')
  ops : {o : Op} {p q p' q' : PathExpr} → Even p p' → Even q q' → Even (op o p q) (op o p' q')
  closures : {p p' : PathExpr} → Even p p' → Even (closure p) (closure p')

-- the path of a triple: each join has a set that is not empty, but those within a kept closure are plain
abbrev pub Inferred : PathExpr → Type 0
Inferred (step d l) = Unit {0}
Inferred (join any p q) = ⊥
Inferred (join (through m) p q) = (0 < m) × (Inferred p × Inferred q)
Inferred (op o p q) = Inferred p × Inferred q
Inferred (closure p) = T (plain? p)

-- the same of a symbol: then the set 0 says that it has none
abbrev pub Marked : Symbol → Type 0
Marked (s_step d l) = Unit {0}
Marked (s_join any) = Unit {0}
Marked (s_join (through m)) = 0 < m
Marked (s_op o) = Unit {0}
Marked s_closure = Unit {0}
