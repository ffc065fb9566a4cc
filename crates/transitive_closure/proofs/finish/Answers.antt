-- `transitive_closure::finish` meets its contract: the row that was reached is the closure's, and takes the place of row s.
-- Assumes nothing.
use mathlib.Core.Path.{refl}
use Rattle.rows.proofs.Rows.{row_is, row_same}
use Rattle.transitive_closure.proofs.Rows.{growing_none}
use Rattle.transitive_closure.proofs.Stages.{stage_row, stage_has}
use Rattle.transitive_closure.proofs.finish.Goals as goal

pub reach-requires : goal.reach-requires
reach-requires c =
    let p = c.requires in
    (p.0, growing_none p.0 p.1 (rw c.row.ensures at c.copy.ensures) (row_same _ _ _))

pub returns : goal.returns
returns c =
    let p = c.requires in
    let r = row_is (rw c.row-2.ensures at c.copy-2.ensures) c.reach.ensures.bit in
    ((refl, stage_row p.0 p.1 r c.unset.ensures c.set.ensures), stage_has p.0 p.1 r c.unset.ensures c.set.ensures)
