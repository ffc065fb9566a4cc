-- `relation::follow_row` meets its contract: a row that was empty took in the rows that are named.
-- Assumes nothing.
use native.Mathlib.Omega.{arith}
use Rattle.relation.proofs.Joining.{words_put}
use Rattle.relation.proofs.follow_row.Goals as goal

pub returns : goal.returns
returns c =
    let a = c.args in
    words_put a.work.now a.d a.work.now a.q a.w a.mask.now 0 16 a.d a.n c.take_row.ensures c.copy.ensures (omega arith) (omega arith) c.requires.5
