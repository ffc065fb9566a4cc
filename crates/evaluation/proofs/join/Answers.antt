-- `evaluation::join` meets its contract: a mask of ones lets every record pass, so the join through it is the plain one.
-- Assumes nothing.
use Rattle.evaluation.proofs.Joins.{join_plain}
use Rattle.evaluation.proofs.Grounds.{grounded, rows_hold, narrow}
use Rattle.evaluation.proofs.join.Goals as goal

pub join-requires : goal.join-requires
join-requires c =
    let g = (grounded c.args.ground.now) in
    (c.requires.0, c.requires.1, narrow g, rows_hold g, narrow g, c.requires.2)

pub returns : goal.returns
returns c =
    let a = c.args in
    join_plain (grounded a.ground.now) a.p a.q c.join.ensures
