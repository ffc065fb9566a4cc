-- `rules::rows_short` meets its contract: while each row passed is short, the whole is short if the rows after it are; one long row makes the whole long.
-- Assumes nothing.
use Rattle.rules.proofs.Rows.{rows_long, rows_go, rows_shorter}
use Rattle.rules.proofs.rows_short.Goals as goal

pub returns-then-not-row_short : goal.returns-then-not-row_short
returns-then-not-row_short c =
    rows_long c.requires.0 c.loop-i.invariant c.loop-i-test.true c.row_short.ensures c.if-not-row_short.true

pub loop-i-preserved : goal.loop-i-preserved
loop-i-preserved c = rows_go c.requires.0 c.loop-i.invariant c.loop-i-test.true c.row_short.ensures c.if-not-row_short.false

pub returns : goal.returns
returns c = rows_shorter c.requires.0 c.loop-i.invariant c.loop-i-test.false
