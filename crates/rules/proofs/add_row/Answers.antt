-- `rules::add_row` meets its contract: a turn adds what node i gives with node j, and the rest of the row is what is left; past 128 triples the whole has too many as well.
-- Assumes nothing.
use Rattle.rules.proofs.Rows.{row_asks, row_turn, row_many, row_over}
use Rattle.rules.proofs.add_row.Goals as goal

pub add_pair-count-requires : goal.add_pair-count-requires
add_pair-count-requires c = row_asks c.requires c.loop-j.invariant c.loop-j-test.true

pub returns-then-count-gt-MOST : goal.returns-then-count-gt-MOST
returns-then-count-gt-MOST c = row_many c.requires c.loop-j.invariant c.loop-j-test.true c.add_pair-count.ensures c.if-count-gt-MOST.true

pub loop-j-preserved : goal.loop-j-preserved
loop-j-preserved c = row_turn c.requires c.loop-j.invariant c.loop-j-test.true c.add_pair-count.ensures c.if-count-gt-MOST.false

pub returns : goal.returns
returns c = row_over c.requires c.loop-j.invariant c.loop-j-test.false
