-- `relation::join` meets its contract: the rows before s are joined, and row s and the relation at q are still as they were.
-- Assumes nothing.
use native.Mathlib.Omega.{arith}
use Rattle.relation.proofs.Joining.{join_more}
use Rattle.relation.proofs.Clean.{clean_ahead}
use Rattle.relation.proofs.Making.{row_le}
use Rattle.relation.proofs.join.Goals as goal

pub join_row-requires : goal.join_row-requires
join_row-requires c =
    let a = c.args in
    let h = c.loop-s-test.true in
    let m = c.loop-s.invariant.1 in
    let e = row_le a.w h in
    let k = m.kept.len in
    (omega arith, omega arith, omega arith, omega arith, omega arith, clean_ahead _ _ m (omega arith) (c.requires.5 c.loop-s.s h))

pub loop-s-preserved : goal.loop-s-preserved
loop-s-preserved c =
    let a = c.args in
    (omega arith, join_more a.mask.now a.p a.q a.n a.w c.loop-s.invariant.1 c.join_row.ensures (omega arith) (omega arith) (omega arith))
