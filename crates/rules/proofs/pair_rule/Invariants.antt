-- `rules::pair_rule` meets its contract: leaving repeats out changes no path, so 13 is judged over all candidates; then a turn adds one row, and the rows after it are left.
use Rattle.rules.proofs.PairRule.{RowsGrowing}
use Rattle.rules.proofs.pair_rule.Given as goal

abbrev pub invariant-loop-i : goal.invariant-loop-i
invariant-loop-i l = RowsGrowing l.question l.initial.words l.words l.o l.s l.count l.fn.xs.start l.fn.xs.end l.ys.start l.ys.end l.i
