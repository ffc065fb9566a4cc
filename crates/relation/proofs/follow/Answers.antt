-- `relation::follow` meets its contract: a row that was empty took in the rows that are named, and is put in its place.
-- Assumes nothing.
use native.Mathlib.Omega.{arith}
use Rattle.relation.proofs.Joining.{words_put}
use Rattle.relation.proofs.follow.Goals as goal

pub returns : goal.returns
returns c =
    let a = c.args in
    words_put a.row.now 0 a.work.now a.q a.w a.mask.now a.m 16 0 a.n c.take_row.ensures c.copy.ensures (omega arith) (omega arith) c.requires.5
