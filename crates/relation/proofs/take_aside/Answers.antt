-- `relation::take_aside` meets its contract: what an empty row took in comes to the row.
-- Assumes nothing.
use native.Mathlib.Omega.{arith}
use Rattle.relation.proofs.Joining.{word_aside}
use Rattle.relation.proofs.take_aside.Goals as goal

pub returns : goal.returns
returns c =
    let a = c.args in
    word_aside a.work.now 16 a.q a.w a.g a.v c.take_bits.ensures c.unite.ensures (omega arith)
