-- `rules::add_copies` meets its contract: a copy has the triple of its node, and the part with the copies still to come is at each turn the list that is due.
use Rattle.rules.proofs.Copies.{CopiesGrowing}
use Rattle.rules.proofs.add_copies.Given as goal

abbrev pub invariant-loop-j : goal.invariant-loop-j
invariant-loop-j l = CopiesGrowing l.question l.initial.words l.words l.s l.start l.count l.fn.ys.start l.fn.ys.end l.j
