-- `relation::take_row` meets its contract: a turn takes in the rows that one word names.
use Prim.Native.Nat.{◌*◌, ◌≤◌}
use Rattle.rows.specs.Row.{Row}
use Rattle.relation.specs.Pairs.{taken_row}
use Rattle.relation.proofs.take_row.Given as goal

abbrev pub invariant-loop-i : goal.invariant-loop-i
invariant-loop-i l = (l.i ≤ l.w) × Row 0 l.w (taken_row l.initial.row l.from l.d l.work l.q l.w l.mask l.m (64 * l.i)) l.initial.row l.row
