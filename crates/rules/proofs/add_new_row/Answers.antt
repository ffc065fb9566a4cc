-- `rules::add_new_row` meets its contract: the triples of a row that repeats an earlier one stand in the part already, so that it adds none; any other row is added.
-- Assumes nothing.
use Rattle.rules.proofs.Repeating.{row_repeated}
use Rattle.rules.proofs.add_new_row.Goals as goal

pub returns-then-repeats : goal.returns-then-repeats
returns-then-repeats c = row_repeated c.requires c.repeats.ensures c.if-repeats.true
