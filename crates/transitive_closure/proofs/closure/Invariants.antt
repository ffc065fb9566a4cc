-- `transitive_closure::closure` meets its contract: where no row is pending each is the closure's.
use Rattle.rows.specs.Row.{row_bit}
use Rattle.transitive_closure.specs.Finishing.{amount}
use Rattle.transitive_closure.specs.Standing.{StageTo}
use Prim.Native.Nat.{◌*◌}
use Rattle.transitive_closure.proofs.closure.Given as goal

abbrev pub invariant-loop-s : goal.invariant-loop-s
invariant-loop-s l = StageTo l.p l.initial.work l.initial.m l.work l.m

abbrev pub decreases-loop-s : goal.decreases-loop-s
decreases-loop-s l = amount (row_bit l.m.pending 0) (64 * l.w)
