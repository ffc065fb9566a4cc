-- `members_file::number_symbols` meets its contract: the codes before j have become numbers, and the bytes of the symbols from j on are still to be counted.
-- Assumes nothing.
use Rattle.members_file.proofs.Symbols.{going_turn, going_over}
use Rattle.members_file.proofs.number_symbols.Goals as goal

pub loop-j-preserved : goal.loop-j-preserved
loop-j-preserved c =
    going_turn c.loop-j.invariant c.loop-j-test.true c.requires.0 c.number-c.ensures c.symbol_size-total.ensures.0 c.symbol_size-total.ensures.1

pub returns : goal.returns
returns c = going_over c.loop-j.invariant c.loop-j-test.false
