-- `narrowing::count_symbols` meets its contract: the first link without a name is refused with 11, before all else; where each has one, what `count_named` counts is due.
-- Assumes nothing.
use Rattle.narrowing.proofs.Inferring.{symbols_unnamed, symbols_named}
use Rattle.narrowing.proofs.count_symbols.Goals as goal

pub returns-in-Some : goal.returns-in-Some
returns-in-Some c = symbols_unnamed c.first_unnamed.ensures _ c.in-Some.is

pub returns-in-None : goal.returns-in-None
returns-in-None c = symbols_named c.first_unnamed.ensures c.in-None.is c.count_named.ensures
