-- `rows::merge_into` meets its contract: each turn finds a word as it was at the start, and merges the source's into it; merged words have the merged bits.
use lib.ListN.{get_or}
use Rattle.rows.specs.Kept.{Wrote}
use Prim.Native.Nat.{◌+◌, ◌≤◌}
use Rattle.rows.proofs.merge_into.Given as goal

abbrev pub invariant-loop-j : goal.invariant-loop-j
invariant-loop-j g l = (l.j ≤ l.n) × Wrote l.d l.j (λ i. g.M.Merge.word (get_or l.initial.to (l.d + i) 0) (get_or l.from (l.s + i) 0)) l.initial.to l.to
