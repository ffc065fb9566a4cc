-- `chains::Walk::add_row` meets its contract: the row is that of the relation itself, or the one that has gone through all links.
-- Assumes nothing.
use native.Mathlib.Omega.{arith}
use Rattle.relation.proofs.Joining.{row_blank}
use Rattle.chains.proofs.Walk.add_row.Goals as goal

pub walk_row-requires : goal.walk_row-requires
walk_row-requires c =
    let v = c.args.self.now in
    (omega (arith, c.if-self-eq0.false), c.requires.0, omega (arith, v.routed.narrow), λ t h. row_blank 16 t (omega (arith, v.routed.narrow)))
