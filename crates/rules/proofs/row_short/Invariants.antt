-- `rules::row_short` meets its contract: while each pair passed is short, the row is short if the rest of it is; one long pair makes the row long.
use Rattle.rules.proofs.Rows.{RowLeft}
use Rattle.rules.proofs.row_short.Given as goal

abbrev pub invariant-loop-j : goal.invariant-loop-j
invariant-loop-j l = RowLeft l.fn.nodes.question.now l.fn.nodes.words.now l.o l.i l.fn.ys.start l.fn.ys.end l.j
