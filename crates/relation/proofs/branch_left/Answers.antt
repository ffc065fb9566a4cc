-- `relation::branch_left` meets its contract: the rows before s are made, and row s of both relations is still as it was.
-- Assumes nothing.
use Rattle.relation.proofs.Clean.{clean_ahead}
use Rattle.relation.proofs.Branches.{branch_more}
use Rattle.relation.proofs.Making.{row_le}
use native.Mathlib.Omega.{arith}
use Rattle.relation.proofs.branch_left.Goals as goal

pub branch_row-requires : goal.branch_row-requires
branch_row-requires c =
    let l = c.loop-s in
    let h = row_le c.args.w c.loop-s-test.true in
    (omega arith, omega arith, omega arith, omega arith, clean_ahead _ _ l.invariant.1 (omega arith) (c.requires.4 l.s (omega arith)))

pub loop-s-preserved : goal.loop-s-preserved
loop-s-preserved c = (omega arith, branch_more c.args.q c.args.n c.loop-s.invariant.1 c.branch_row.ensures (omega arith) (omega arith) (omega arith))
