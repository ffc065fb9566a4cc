-- `relation::join` meets its contract: the rows before s are joined, and row s and the relation at q are still as they were.
use Prim.Native.Nat.{◌≤◌}
use Rattle.theory.specs.Evaluation.{join?}
use Rattle.rows.specs.Row.{row_bit}
use Rattle.relation.specs.Pairs.{pair_at, Made}
use Rattle.relation.proofs.join.Given as goal

abbrev pub invariant-loop-s : goal.invariant-loop-s
invariant-loop-s l = (l.s ≤ l.n) × Made l.p l.s l.w (join? l.n (row_bit l.mask 0) (pair_at l.initial.work l.p l.w) (pair_at l.initial.work l.q l.w)) l.initial.work l.work
