-- `chains::Route::lay` meets its contract: a chain is laid as a route, whose pairs are those of the path that its symbols make.
-- Assumes nothing.
use native.Mathlib.Omega.{arith}
use Rattle.evaluation.proofs.Grounds.{grounded}
use Rattle.chains.proofs.Laying.{laid_routed, laid_leads}
use Rattle.chains.proofs.Route.lay.Goals as goal

pub returns-clause-routed : goal.returns-clause-routed
returns-clause-routed c =
    let t = c.args.table.now in
    let y = c.chained.ensures c.if-not-chained.false in
    let v = c.lay_links.ensures in
    let r = c.lay_links.new.self in
    λ e. laid_routed (grounded t.ground) t.filled v.held y.1 (v.laid c.if-not-lay_links.false)
    (omega (arith, y.0, r.sized.0)) (omega (arith, y.0, r.sized.1)) (omega (arith, v.kept.len, c.requires.room))

pub returns-clause-leads : goal.returns-clause-leads
returns-clause-leads c =
    let t = c.args.table.now in
    let y = c.chained.ensures c.if-not-chained.false in
    let v = c.lay_links.ensures in
    λ e p q. laid_leads (grounded t.ground) t.filled v.held y.1 (v.laid c.if-not-lay_links.false) _ p y.0 q
