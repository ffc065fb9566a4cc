-- `closure_rule::copy_acyclic` meets its contract: the nodes passed whose ends are not cyclic were added once each, and the filter of those from j on is still to come.
use Rattle.closure_rule.proofs.Acyclic.{AcyclicGrowing}
use Rattle.closure_rule.proofs.copy_acyclic.Given as goal

abbrev pub invariant-loop-j : goal.invariant-loop-j
invariant-loop-j l = AcyclicGrowing l.question l.initial.words l.words l.s l.fn.xs.start l.fn.xs.end l.count l.j
