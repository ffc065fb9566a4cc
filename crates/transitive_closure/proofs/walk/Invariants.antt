-- `transitive_closure::walk` meets its contract: each turn is a stage, and the walk ends with all rows met and none on the stack.
use Rattle.rows.specs.Row.{row_bit}
use Rattle.transitive_closure.specs.Finishing.{amount}
use Rattle.transitive_closure.specs.Standing.{StageTo, Walking}
use Prim.Native.Nat.{◌+◌, ◌*◌}
use lib.ListN.{length}
use Rattle.transitive_closure.proofs.walk.Given as goal

abbrev pub invariant-loop-p : goal.invariant-loop-p
invariant-loop-p l = StageTo l.p l.initial.work l.initial.m l.work l.m × Walking l.p l.search

abbrev pub decreases-loop-p : goal.decreases-loop-p
decreases-loop-p l = 2 * amount (row_bit l.search.unseen 0) (64 * l.p.w) + length l.search.stack.items
