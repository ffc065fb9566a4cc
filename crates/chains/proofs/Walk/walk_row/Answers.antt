-- `chains::Walk::walk_row` meets its contract: the row of the first relation goes through one link after the other.
-- Assumes nothing.
use native.Mathlib.Omega.{arith}
use Rattle.rows.proofs.Rows.{row_now}
use Rattle.chains.proofs.Routes.{routed_clean, routed_first, routed_more}
use Prim.Native.Nat.{◌+◌}
use Rattle.chains.proofs.Walk.walk_row.Goals as goal

pub loop-j-init : goal.loop-j-init
loop-j-init c =
    let p = c.requires in
    (omega arith, omega (arith, p.0), row_now (routed_first c.args.self.now.routed c.args.s p.1 c.take_row.ensures p.3))

pub follow-requires : goal.follow-requires
follow-requires c =
    let l = c.loop-j in
    let v = c.args.self.now in
    let p = c.requires in
    let h = c.loop-j-test.true in (
      omega (arith, p.2, l.invariant.2.kept.len, c.take_row.ensures.kept.len),
      v.routed.room (l.j + 1) (omega (arith, h)),
      v.routed.narrow,
      v.routed.wide,
      omega (arith, v.routed.masks, v.routed.narrow, h),
      routed_clean v.routed c.args.s p.1 l.j l.invariant.1 l.invariant.2,
    )

pub loop-j-preserved : goal.loop-j-preserved
loop-j-preserved c =
    let l = c.loop-j in
    (omega arith, omega (arith, c.loop-j-test.true), routed_more c.args.self.now.routed c.args.s c.requires.1 l.j l.invariant.2 c.follow.ensures)
