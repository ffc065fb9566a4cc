-- The kinds of derived triples are the sheet's.
-- Assumes nothing.
use mathlib.Core.List.{List}
use Prim.Native.Nat.{ℕ, ◌<◌}
use lib.Dec.{T}
use Rattle.theory.specs.PathExpr.{Direction, Label, Via, Op, PathExpr, step, join, op, closure}
use Rattle.theory.specs.Sheet.{Sheet, sheet?}
use Rattle.theory.specs.Derivation.{Triples, Step, along, back, Join, joins, Operate, union_left, union_right, conjoins, branches_right, branches_left, Walk, first, then, Derives}
use Rattle.theory.proofs.Sheet.{permits_inside}
use Rattle.theory.proofs.Rules.{Sub, induction}

module _ (S : Sheet) (ok : T (sheet? S)) where
  abbrev Within : PathExpr → Triples
  Within o a p b = (a < S.kinds) × (b < S.kinds)

  steps : (d : Direction) (l : Label) (a : ℕ) (p : PathExpr) (b : ℕ) → Step S d l a p b → Within (step d l) a p b
  steps d l a p b (along m f t) = let r = permits_inside S ok t in (r.0, r.2)
  steps d l a p b (back m f t) = let r = permits_inside S ok t in (r.2, r.0)

  join_ends : (v : Via) (o₁ o₂ : PathExpr) (a : ℕ) (p : PathExpr) (b : ℕ) → Join (Within o₁) (Within o₂) a p b → Within (join v o₁ o₂) a p b
  join_ends v o₁ o₂ a p b (joins x y) = (x.0, y.1)

  op_ends : (o : Op) (o₁ o₂ : PathExpr) (a : ℕ) (p : PathExpr) (b : ℕ) → Operate (Within o₁) (Within o₂) o a p b → Within (op o o₁ o₂) a p b
  op_ends o o₁ o₂ a p b (union_left x) = x
  op_ends o o₁ o₂ a p b (union_right y) = y
  op_ends o o₁ o₂ a p b (conjoins x y) = x
  op_ends o o₁ o₂ a p b (branches_right x y) = x
  op_ends o o₁ o₂ a p b (branches_left x y) = y

  walk_ends : (o : PathExpr) (a : ℕ) (p : PathExpr) (b : ℕ) (ks : List ℕ) → Walk (Within o) a p b ks → Within (closure o) a p b
  walk_ends o a p b ks (first x) = x
  walk_ends o a p b ks (then {b = z} {p = q} {ks = ls} w x) = ((walk_ends o a q z ls w).0, x.1)

  pub derives_inside : (o : PathExpr) → Sub (Derives S o) (Within o)
  derives_inside = induction S Within (record { steps = steps; joins = join_ends; ops = op_ends; keeps = walk_ends; unrolls = walk_ends })
