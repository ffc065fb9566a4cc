-- `rules::rows_short` meets its contract: while each row passed is short, the whole is short if the rows after it are; one long row makes the whole long.
use Rattle.rules.proofs.Rows.{RowsLeft}
use Rattle.rules.proofs.rows_short.Given as goal

abbrev pub invariant-loop-i : goal.invariant-loop-i
invariant-loop-i l = RowsLeft l.nodes.question.now l.nodes.words.now l.o l.fn.xs.start l.fn.xs.end l.ys.start l.ys.end l.i
