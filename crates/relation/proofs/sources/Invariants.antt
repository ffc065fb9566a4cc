-- `relation::sources` meets its contract: each turn makes one word of the mask, up to the last record and then of none.
use Rattle.relation.specs.Pairs.{pair_at}
use Rattle.rows.proofs.Masks.{Begins}
use Rattle.rows.specs.Row.{Row, mask_of}
use Rattle.theory.specs.Lists.{some?, range}
use Prim.Native.Nat.{◌≤◌}
use Rattle.relation.proofs.sources.Given as goal

abbrev pub invariant-loop-i : goal.invariant-loop-i
invariant-loop-i l = (l.i ≤ l.w) × Begins l.n l.i l.g × Row 0 l.i (mask_of (λ t. some? (pair_at l.work l.q l.w t) (range l.n)) l.n) l.initial.mask l.mask
