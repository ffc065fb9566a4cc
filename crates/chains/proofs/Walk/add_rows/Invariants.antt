-- `chains::Walk::add_rows` meets its contract: band after band of 64 rows gains its pairs.
use Prim.Native.Nat.{◌*◌, ◌≤◌}
use Rattle.chains.specs.Routed.{routed, between, Gained}
use Rattle.chains.proofs.Walk.add_rows.Given as goal

abbrev pub invariant-loop-i : goal.invariant-loop-i
invariant-loop-i l =
    let v = l.self in
    let r = v.route.now in
    (l.i ≤ v.words) × Gained 0 (64 * l.i) v.records v.words (between (routed v.work.now r.bases r.masks v.records v.words r.links) l.from l.to) l.initial.answer l.answer
