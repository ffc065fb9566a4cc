-- The triple that a node stands for, and when a table of nodes is sound.
-- SPECIFICATION, Inference: triples (from kind, path, to kind); the chain of the original part.
-- Assumes nothing.
use Rattle.std.specs.Prelude.{◌≡◌, cond, List, ℕ, zero, suc, ◌+◌, ◌<◌, ◌≤◌, ltb, length, take, drop, replicate}
use Rattle.std.proofs.Math.Option.{get_or}
use Rattle.theory.specs.KindSet.{singleton}
use Rattle.theory.specs.PathExpr.{forward, named, through, PathExpr, step, join, op, closure, Symbol, s_step, s_join, s_op, s_closure, codes, size, code}
use Rattle.theory.specs.Postfix.{path_of}
use Rattle.theory.specs.Inference.{Triple, triple}
use Rattle.algorithms.specs.Growth.{no_triple}
use Rattle.theory.specs.JoinSets.{sets_of}
use Rattle.symbols.specs.Symbols.{symbol_numbered}
use Rattle.question.specs.Form.{question_symbols}
use Rattle.triples.specs.declared.Node.{Node}
use Rattle.triples.specs.Table.{node_at}

-- ---- a node's triple
-- the path of n symbols of the question from s on (a step where they make none)
unfoldable pub original : List ℕ → ℕ → ℕ → PathExpr
original qs s n = get_or (path_of (question_symbols (take n (drop s qs)))) (step forward (named 0))

-- the path that node n makes of the triples of its operands, by its last symbol; a kept chain is that of an original part
abbrev pub built : List ℕ → Node → Triple → Triple → Symbol → PathExpr
built qs n x y (s_step d l) = step d l
built qs n x y (s_join v) = join (through (singleton x.to)) x.path y.path
built qs n x y (s_op o) = op o x.path y.path
built qs n x y s_closure = closure (original qs n.left n.right)

abbrev pub of_node : List ℕ → Node → Triple → Triple → Triple
of_node qs n x y = triple n.from.0 (built qs n x y (symbol_numbered n.made 0)) n.to.0

-- the triple of node i, with fuel; an operand that is not below its node counts as none
unfoldable pub triple_at : ℕ → List ℕ → List ℕ → ℕ → Triple
triple_at zero qs ws i = no_triple
triple_at (suc f) qs ws i =
    of_node qs (node_at ws i)
    (cond (ltb (node_at ws i).left i) (triple_at f qs ws (node_at ws i).left) no_triple)
    (cond (ltb (node_at ws i).right i) (triple_at f qs ws (node_at ws i).right) no_triple)

-- the triple of node i
unfoldable pub triple_of : List ℕ → List ℕ → ℕ → Triple
triple_of qs ws i = triple_at (suc i) qs ws i

-- ---- a sound table
-- c is the code of its symbol
pub record Coded (c : ℕ) : Type 0 where
  pub is : code (symbol_numbered c 0) ≡ c

-- both operands of node n stand below place i
pub record Two (i : ℕ) (n : Node) : Type 0 where
  pub left_below : n.left < i
  pub right_below : n.right < i

-- n symbols of the question from s on make a path: they are its codes, and its joins are plain
pub record Copied (qs : List ℕ) (s n : ℕ) : Type 0 where
  pub inside : s + n ≤ length qs
  pub same_codes : codes (original qs s n) ≡ take n (drop s qs)
  pub no_sets : sets_of (original qs s n) ≡ replicate n 0

-- what node n at place i is made of, by its last symbol: a step of nothing, an operator of two nodes, a kept chain of an original part
abbrev pub Founded : List ℕ → ℕ → Node → Symbol → Type 0
Founded qs i n (s_step d l) = Unit {0}
Founded qs i n (s_join v) = Two i n
Founded qs i n (s_op o) = Two i n
Founded qs i n s_closure = Copied qs n.left n.right

-- node i is sound: the code of a symbol, its path's number of symbols, and what it is made of
pub record Good (qs ws : List ℕ) (i : ℕ) : Type 0 where
  pub known : Coded (node_at ws i).made
  pub sized : size (triple_of qs ws i).path ≡ (node_at ws i).size
  pub founded : Founded qs i (node_at ws i) (symbol_numbered (node_at ws i).made 0)

-- each of the first `used` nodes is sound
pub record Sound (qs ws : List ℕ) (used : ℕ) : Type 0 where
  pub good : (i : ℕ) → i < used → Good qs ws i

-- node i is one of the `used` ones of a sound table
pub record Has (qs ws : List ℕ) (used i : ℕ) : Type 0 where
  pub in_use : i < used
  pub in_table : used ≤ length ws
  pub sound : Sound qs ws used
