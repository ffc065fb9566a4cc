-- `transitive_closure::closure` meets its contract: where no row is pending each is the closure's.
-- Assumes nothing.
use native.Mathlib.Omega.{arith}
use Rattle.rows.proofs.Rows.{row_same}
use Rattle.transitive_closure.proofs.Stages.{ready_start, stage_then, stage_less, stage_all, pending_first, pending_none}
use Rattle.transitive_closure.proofs.closure.Goals as goal

pub walk-requires : goal.walk-requires
walk-requires c =
    let p = c.requires in
    let l = c.sources.ensures in
    ready_start 16 p.0 p.1 p.2 p.2 (omega (arith, p.2, l.kept.len)) (omega (arith, p.2, l.kept.len)) p.3 l (row_same _ _ _)

pub loop-s-smaller : goal.loop-s-smaller
loop-s-smaller c =
    let f = c.in-Some.ensures in
    let t = c.finish.ensures in
    stage_less c.in-Some.s t.0.1 f.0 (pending_first _ _ f.1 f.0) t.1

pub returns : goal.returns
returns c =
    let w = c.walk.ensures in
    let i = c.loop-s.invariant in
    stage_all (stage_then w.1 (rw w.0 at i.1)) (pending_none _ _ c.in_default.ensures (omega arith))
