-- `relation::branch_left` meets its contract: the rows before s are made, and row s of both relations is still as it was.
use Rattle.relation.specs.Pairs.{pair_at, Made}
use Rattle.theory.specs.Evaluation.{op?}
use Rattle.theory.specs.PathExpr.{branch_left}
use Prim.Native.Nat.{◌≤◌}
use Rattle.relation.proofs.branch_left.Given as goal

abbrev pub invariant-loop-s : goal.invariant-loop-s
invariant-loop-s l = (l.s ≤ l.n) × Made l.p l.s l.w (op? l.n branch_left (pair_at l.initial.work l.p l.w) (pair_at l.initial.work l.q l.w)) l.initial.work l.work
