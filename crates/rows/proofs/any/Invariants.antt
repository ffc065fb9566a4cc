-- `rows::any` meets its contract: the union of the words is 0 only where each of them is, and a word that is not 0 has a bit.
use Rattle.rows.proofs.Folded.{Folded, row_words}
use Prim.Native.Nat.{◌≤◌}
use Rattle.rows.proofs.any.Given as goal

abbrev pub invariant-loop-x : goal.invariant-loop-x
invariant-loop-x l = (l.x-index ≤ l.n) × Folded (row_words l.words l.r) l.x-index l.v
