-- `merge::or_sets` meets its contract: the sets before j are unions, and those from j on are as they were.
use Rattle.merge.specs.Runs.{Ored}
use Rattle.merge.proofs.or_sets.Given as goal

abbrev pub invariant-loop-j : goal.invariant-loop-j
invariant-loop-j l = Ored l.from l.initial.into l.into l.j
