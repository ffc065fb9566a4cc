-- A node in use of a sound table: its path by its last symbol, and its operands.
-- Assumes nothing.
use mathlib.Core.Path.{◌≡◌, sym, ap, ◌∙◌, subst}
use mathlib.Core.List.{List}
use Prim.Native.Nat.{ℕ, suc, ◌+◌}
use native.Mathlib.Omega.{arith}
use Rattle.theory.specs.KindSet.{singleton}
use Rattle.theory.specs.PathExpr.{Direction, Label, through, Op, step, join, op, closure, s_step, s_op, Via, size, Symbol, s_join, s_closure}
use Rattle.symbols.specs.Symbols.{symbol_numbered}
use Rattle.triples.specs.declared.Node.{Node}
use Rattle.triples.specs.Table.{node_at}
use Rattle.triples.specs.Paths.{original, triple_of, Coded, Two, Copied, Founded, Good, Has}
use Rattle.triples.proofs.Triples.{triple_to, path_built, path_step, path_kept, path_join, path_op}
use Rattle.triples.proofs.Codes.{last_code, last_built}

-- node n at place i has two operands: they stand below it, and its path has one symbol more than theirs
pub record Binary (qs ws : List ℕ) (i : ℕ) (n : Node) : Type 0 where
  pub two : Two i n
  pub sizes : size (triple_of qs ws i).path ≡ suc (size (triple_of qs ws n.left).path + size (triple_of qs ws n.right).path)

module _ {qs ws : List ℕ} {used i : ℕ} (h : Has qs ws used i) (n : Node) (e : n ≡ node_at ws i) where
  good : Good qs ws i
  good = h.sound.good i h.in_use

  pub known : Coded n.made
  known = rw e good.known

  pub founded : (s : Symbol) → symbol_numbered n.made 0 ≡ s → Founded qs i n s
  founded s k = subst (Founded qs i n) k (subst (λ (m : Node). Founded qs i m (symbol_numbered m.made 0)) (sym e) good.founded)

  pub step_path : (d : Direction) (l : Label) → symbol_numbered n.made 0 ≡ s_step d l → (triple_of qs ws i).path ≡ step d l
  step_path d l s = path_step qs ws i d l (rw e at s)

  pub kept_path : symbol_numbered n.made 0 ≡ s_closure → (triple_of qs ws i).path ≡ closure (original qs n.left n.right)
  kept_path s = rw e (path_kept qs ws i (rw e at s))

  pub kept_copied : symbol_numbered n.made 0 ≡ s_closure → Copied qs n.left n.right
  kept_copied s = founded s_closure s

  pub last_made : last_code (triple_of qs ws i).path ≡ n.made
  last_made =
      let b = path_built qs ws i in
      ap last_code b.2 ∙ last_built qs (node_at ws i) b.0 b.1 (symbol_numbered (node_at ws i).made 0)
      ∙ good.known.is ∙ ap (λ (m : Node). m.made) (sym e)

  -- ---- an operator of two operands
  module _ (two : Two i n) where
    pub left_has : Has qs ws used n.left
    left_has = record { in_use = omega (arith, two.left_below, h.in_use); in_table = h.in_table; sound = h.sound }

    pub right_has : Has qs ws used n.right
    right_has = record { in_use = omega (arith, two.right_below, h.in_use); in_table = h.in_table; sound = h.sound }

    here : Two i (node_at ws i)
    here = subst (Two i) e two

    join_as : (v : Via) → symbol_numbered n.made 0 ≡ s_join v
        → (triple_of qs ws i).path ≡ join (through (singleton (node_at ws n.left).to.0)) (triple_of qs ws n.left).path (triple_of qs ws n.right).path
    join_as v s = rw (e, ← triple_to qs ws (node_at ws i).left) (path_join qs ws i here.left_below here.right_below v (rw e at s))

    op_as : (o : Op) → symbol_numbered n.made 0 ≡ s_op o → (triple_of qs ws i).path ≡ op o (triple_of qs ws n.left).path (triple_of qs ws n.right).path
    op_as o s = rw e (path_op qs ws i here.left_below here.right_below o (rw e at s))

  module _ (v : Via) (s : symbol_numbered n.made 0 ≡ s_join v) where
    pub join_path : (triple_of qs ws i).path ≡ join (through (singleton (node_at ws n.left).to.0)) (triple_of qs ws n.left).path (triple_of qs ws n.right).path
    join_path = join_as (founded (s_join v) s) v s

    pub join_binary : Binary qs ws i n
    join_binary = record { two = founded (s_join v) s; sizes = ap size join_path }

  module _ (o : Op) (s : symbol_numbered n.made 0 ≡ s_op o) where
    pub op_path : (triple_of qs ws i).path ≡ op o (triple_of qs ws n.left).path (triple_of qs ws n.right).path
    op_path = op_as (founded (s_op o) s) o s

    pub op_binary : Binary qs ws i n
    op_binary = record { two = founded (s_op o) s; sizes = ap size op_path }
