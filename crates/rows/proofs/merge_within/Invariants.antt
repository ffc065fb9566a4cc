-- `rows::merge_within` meets its contract: each turn merges a word that the loop does not change into one that it has not come to.
use lib.ListN.{get_or}
use Rattle.rows.specs.Kept.{Wrote}
use Prim.Native.Nat.{◌+◌, ◌≤◌}
use Rattle.rows.proofs.merge_within.Given as goal

abbrev pub invariant-loop-j : goal.invariant-loop-j
invariant-loop-j g l = (l.j ≤ l.n) × Wrote l.d l.j (λ i. g.M.Merge.word (get_or l.initial.words (l.d + i) 0) (get_or l.initial.words (l.s + i) 0)) l.initial.words l.words
