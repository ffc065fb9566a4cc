-- `rows::first` meets its contract: the words that were passed have no bit in common, and of the first that has one its lowest is told.
use Rattle.rows.proofs.Leasts.{Passed}
use Prim.Native.Nat.{◌≤◌}
use Rattle.rows.proofs.first.Given as goal

abbrev pub invariant-loop-i : goal.invariant-loop-i
invariant-loop-i l = (l.i ≤ l.n) × Passed l.words l.r l.a l.b l.i
