-- `kind_graph::at_most` meets its contract: `all` tells that each number passes the test, or that one does not.
-- Assumes nothing.
use Prim.Native.Nat.{◌≤◌, ◌<◌}
use Rattle.std.proofs.Common.{rules, tests}
use Rattle.std.proofs.lemmas.Iterator.{cases_from_all, YieldsList-from_slice}
use Rattle.kind_graph.proofs.Rounds.{decides_at_most}
use Rattle.kind_graph.proofs.at_most.Goals as goal

pub returns : goal.returns
returns c =
    let xs = c.args.best.now in
    let m = c.args.m in
    decides_at_most m _ xs
    (cases_from_all _ _ _ (λ x. x ≤ m) (λ x. m < x) c.all.ensures.ran (YieldsList-from_slice xs cc) (λ x q k. search (rules, tests)) (λ x q k. search (rules, tests)))
