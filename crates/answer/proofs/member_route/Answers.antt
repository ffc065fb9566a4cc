-- `answer::member_route` meets its contract: a chain has a route over its steps, and any path one without a link once it is evaluated.
-- Assumes nothing.
use native.Mathlib.Omega.{arith}
use Rattle.rows.proofs.Words.{kept_in, kept_trans}
use Rattle.evaluation.proofs.Grounds.{grounded, path_is}
use Rattle.chains.proofs.Holding.{held_kept}
use Rattle.chains.proofs.Laying.{single_routed, single_leads}
use Rattle.answer.proofs.member_route.Goals as goal

pub returns-then-lay : goal.returns-then-lay
returns-then-lay c =
    let v = c.lay.ensures in
    let e = c.if-lay.true in
    record { held = v.held; kept = kept_in v.kept (omega arith) (omega arith); routed = v.routed e; leads = v.leads e }

pub returns : goal.returns
returns c =
    let g = (grounded c.args.table.now.ground) in
    let v = c.lay.ensures in
    let d = c.evaluate.ensures in
    let p = path_is _ c.args.path.now.whole in
    let r = c.lay.new.self in
    let s = c.stay.ensures in
    let k = (d p.0 p.1).kept in record {
      held = held_kept g v.held k (omega arith);
      kept = kept_trans v.kept k (omega arith) (omega arith) (omega arith) (omega arith);
      routed = rw (s.0, s.1, s.2) (single_routed g r.bases r.masks p.0 (d p.0 p.1).pairs (omega (arith, r.sized.0)) (omega (arith, k.len, v.kept.len, c.requires.room)));
      leads = λ x e. rw (s.0, s.1, s.2) (single_leads g r.bases r.masks x (d x e).pairs (omega (arith, r.sized.0)));
    }
