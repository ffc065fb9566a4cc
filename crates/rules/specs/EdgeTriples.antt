-- The triples of a matrix of kinds: where bit b of word a is set, a path leads from kind a to kind b. A step's and those of a kept chain are such.
-- SPECIFICATION, Inference, Chains in inference.
-- Assumes nothing.
use Rattle.std.specs.Prelude.{◌≡◌, List, [], ◌∷◌, ℕ, ◌<◌, ◌≤◌, length}
use Rattle.theory.specs.Lists.{guard, concat_map, range}
use Rattle.theory.specs.PathExpr.{PathExpr, size, Symbol, s_step, s_join, s_op, s_closure}
use Rattle.theory.specs.Inference.{Triple, triple, between}
use Rattle.algorithms.specs.Growth.{no_triple}
use Rattle.symbols.specs.Symbols.{symbol_numbered}
use Rattle.rows.specs.Row.{row_bit}
use Rattle.triples.specs.declared.Node.{Node}
use Rattle.triples.specs.Paths.{built, Coded, Copied}
use Rattle.rules.specs.Requirements.{Room}

-- ---- the triples of the matrix xs with path p: from kind a to kind b, from kind a to each of K kinds, from each to each
unfoldable pub edge_at : List ℕ → PathExpr → ℕ → ℕ → List Triple
edge_at xs p a b = guard (row_bit xs a b) (triple a p b ∷ [])

unfoldable pub edges_from : List ℕ → PathExpr → ℕ → ℕ → List Triple
edges_from xs p K a = concat_map (edge_at xs p a) (range K)

unfoldable pub edges_of : List ℕ → PathExpr → ℕ → List Triple
edges_of xs p K = between K p (row_bit xs)

-- ---- a node that needs no other: a step, or a kept chain
-- node n from kind a to kind b
abbrev pub edge_node : Node → ℕ → ℕ → Node
edge_node n a b = record { made = n.made; left = n.left; right = n.right; size = n.size; from = record { 0 = a }; to = record { 0 = b } }

-- its path
unfoldable pub leaf_path : List ℕ → Node → PathExpr
leaf_path qs n = built qs (edge_node n 0 0) no_triple no_triple (symbol_numbered n.made 0)

abbrev pub Alone : List ℕ → Node → Symbol → Type 0
Alone qs n (s_step d l) = Unit {0}
Alone qs n (s_join v) = ⊥
Alone qs n (s_op o) = ⊥
Alone qs n s_closure = Copied qs n.left n.right

pub record Leaf (qs : List ℕ) (n : Node) : Type 0 where
  pub known : Coded n.made
  pub alone : Alone qs n (symbol_numbered n.made 0)
  pub sized : size (leaf_path qs n) ≡ n.size
  pub made_fits : n.made < 256
  pub left_fits : n.left < 4096
  pub right_fits : n.right < 4096
  pub size_fits : n.size < 64

-- ---- what is asked: of one edge, and of a matrix of K kinds
pub record AddEdge (qs ws xs : List ℕ) (n : Node) (s count a b : ℕ) : Type 0 where
  pub leaf : Leaf qs n
  pub room : Room qs ws s count
  pub row : a < length xs
  pub from_kind : a < 64
  pub to_kind : b < 64

pub record AddEdges (qs ws xs : List ℕ) (K : ℕ) (n : Node) (s count : ℕ) : Type 0 where
  pub leaf : Leaf qs n
  pub room : Room qs ws s count
  pub rows : K ≤ length xs
  pub kinds : K ≤ 64
