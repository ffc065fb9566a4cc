-- `chains::Walk::walk_row` meets its contract: the row of the first relation goes through one link after the other.
use Prim.Native.Nat.{◌≤◌}
use Rattle.rows.specs.Row.{Row}
use Rattle.chains.specs.Routed.{routed}
use Rattle.chains.proofs.Walk.walk_row.Given as goal

abbrev pub invariant-loop-j : goal.invariant-loop-j
invariant-loop-j l =
    let v = l.self in
    let r = v.route.now in
    (1 ≤ l.j) × (l.j ≤ r.links) × Row 0 v.words (routed v.work.now r.bases r.masks v.records v.words l.j l.s) l.initial.row l.row
