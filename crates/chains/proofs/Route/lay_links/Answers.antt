-- `chains::Route::lay_links` meets its contract: the first step is held, and then link after link comes to it.
-- Assumes nothing.
use native.Mathlib.Omega.{arith}
use Rattle.rows.proofs.Words.{kept_trans}
use Rattle.evaluation.proofs.Grounds.{grounded, narrow}
use Rattle.chains.proofs.Laying.{laid_more}
use Rattle.chains.proofs.Route.lay_links.Goals as goal

pub loop-j-preserved : goal.loop-j-preserved
loop-j-preserved c =
    let l = c.loop-j in
    let i = l.invariant in
    let e = c.lay_link.ensures in (
      omega (arith, c.loop-j-test.true),
      e.held.0,
      kept_trans i.2 e.kept (omega arith) (omega arith) (omega arith) (omega arith),
      laid_more l.j i.3 (e.laid c.if-not-lay_link.false) e.held.1 (narrow (grounded c.args.table.now.ground)),
    )
