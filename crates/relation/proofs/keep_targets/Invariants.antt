-- `relation::keep_targets` meets its contract: the rows before s have lost the bits that the mask lacks, and those from s on are as they were.
use Rattle.relation.specs.Pairs.{pair_at, Made}
use Rattle.rows.specs.Row.{row_bit}
use mathlib.Core.Bool.{◌&&◌}
use Prim.Native.Nat.{◌≤◌}
use Rattle.relation.proofs.keep_targets.Given as goal

abbrev pub invariant-loop-s : goal.invariant-loop-s
invariant-loop-s l = (l.s ≤ l.n) × Made l.b l.s l.w (λ i t. pair_at l.initial.work l.b l.w i t && row_bit l.mask 0 t) l.initial.work l.work
