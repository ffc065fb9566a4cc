-- The code of a path's last symbol.
-- Assumes nothing.
use mathlib.Core.Path.{◌≡◌, refl}
use mathlib.Core.List.{List}
use Prim.Native.Nat.{ℕ}
use Rattle.theory.specs.PathExpr.{PathExpr, step, join, op, closure, Symbol, s_step, s_join, s_op, s_closure, step_code, op_code, code}
use Rattle.theory.specs.Inference.{Triple}
use Rattle.triples.specs.declared.Node.{Node}
use Rattle.triples.specs.Paths.{built}

abbrev pub last_code : PathExpr → ℕ
last_code (step d l) = step_code d l
last_code (join v p q) = 128
last_code (op o p q) = op_code o
last_code (closure p) = 133

pub last_built : (qs : List ℕ) (n : Node) (x y : Triple) (s : Symbol) → last_code (built qs n x y s) ≡ code s
last_built qs n x y (s_step d l) = refl
last_built qs n x y (s_join v) = refl
last_built qs n x y (s_op o) = refl
last_built qs n x y s_closure = refl
