-- `Growth::reach` meets its contract: at each turn the row lies between row s and the closure's, and where a step took nothing in it is the closure's.
use mathlib.Core.Path.{◌≡◌}
use Rattle.rows.specs.Kept.{Kept}
use Rattle.rows.specs.Row.{row_bit}
use Rattle.transitive_closure.specs.Finishing.{amount, Growing}
use Prim.Native.Nat.{◌+◌, ◌*◌}
use Rattle.transitive_closure.proofs.Growth.reach.Given as goal

abbrev pub invariant-loop-p : goal.invariant-loop-p
invariant-loop-p l =
    (l.self.s ≡ l.initial.self.s) × Kept 0 (0 + l.p.w) l.initial.self.row l.self.row × Growing l.work l.p.b l.p.n l.p.w l.initial.self.s l.self.row l.self.left

abbrev pub decreases-loop-p : goal.decreases-loop-p
decreases-loop-p l = amount (row_bit l.self.left 0) (64 * l.p.w)
