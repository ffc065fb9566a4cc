-- `rules::row_short` meets its contract: while each pair passed is short, the row is short if the rest of it is; one long pair makes the row long.
-- Assumes nothing.
use Rattle.rules.proofs.Rows.{row_long, row_goes, row_shorter}
use Rattle.rules.proofs.row_short.Goals as goal

pub returns-then-not-short : goal.returns-then-not-short
returns-then-not-short c =
    row_long c.requires.0 c.loop-j.invariant c.requires.1 c.requires.2 c.loop-j-test.true c.load-x.ensures c.load-y.ensures c.short.ensures c.if-not-short.true

pub loop-j-preserved : goal.loop-j-preserved
loop-j-preserved c =
    row_goes c.requires.0 c.loop-j.invariant c.requires.1 c.requires.2 c.loop-j-test.true c.load-x.ensures c.load-y.ensures c.short.ensures c.if-not-short.false

pub returns : goal.returns
returns c = row_shorter c.requires.0 c.loop-j.invariant c.loop-j-test.false
