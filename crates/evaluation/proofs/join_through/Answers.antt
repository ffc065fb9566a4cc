-- `evaluation::join_through` meets its contract: the mask has exactly the records whose kind is in the set, and the join goes through the records that it has.
-- Assumes nothing.
use Rattle.evaluation.proofs.Joins.{join_kinds}
use Rattle.evaluation.proofs.Grounds.{grounded, rows_hold, narrow}
use native.Mathlib.Omega.{arith}
use Rattle.evaluation.proofs.join_through.Goals as goal

pub kind_mask-requires : goal.kind_mask-requires
kind_mask-requires c = narrow (grounded c.args.ground.now)

pub join-requires : goal.join-requires
join-requires c =
    let g = (grounded c.args.ground.now) in
    (c.requires.0, c.requires.1, narrow g, rows_hold g, omega (arith, narrow g, c.kind_mask.ensures.kept.len), c.requires.2)

pub returns : goal.returns
returns c =
    let a = c.args in
    join_kinds (grounded a.ground.now) a.p a.q a.set c.kind_mask.ensures c.join.ensures
