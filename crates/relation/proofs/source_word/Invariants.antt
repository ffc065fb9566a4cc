-- `relation::source_word` meets its contract: each turn adds the bit of a row that has one, and no bit of an empty one.
use Rattle.relation.specs.Pairs.{pair_at}
use Rattle.rows.specs.Row.{Word}
use Rattle.theory.specs.Lists.{some?, range}
use Prim.Native.Nat.{◌+◌, ◌≤◌}
use Rattle.relation.proofs.source_word.Given as goal

abbrev pub invariant-loop-i : goal.invariant-loop-i
invariant-loop-i l = (l.i ≤ l.m) × Word (λ j. some? (pair_at l.work l.q l.w (l.g + j)) (range l.n)) l.i l.v
