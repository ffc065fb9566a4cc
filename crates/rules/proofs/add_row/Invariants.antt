-- `rules::add_row` meets its contract: a turn adds what node i gives with node j, and the rest of the row is what is left; past 128 triples the whole has too many as well.
use Rattle.rules.proofs.Rows.{RowGrowing}
use Rattle.rules.proofs.add_row.Given as goal

abbrev pub invariant-loop-j : goal.invariant-loop-j
invariant-loop-j l = RowGrowing l.question l.initial.words l.words l.o l.s l.start l.count l.i l.fn.ys.start l.fn.ys.end l.j
