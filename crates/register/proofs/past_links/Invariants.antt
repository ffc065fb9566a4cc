-- `register::past_links` meets its contract: between the bounds a number has a link's tag and length, a from in range and a key that ascends, so each turn takes one more link.
use Prim.Native.Nat.{◌-◌}
use lib.ListN.{length}
use Rattle.register.proofs.Passing.{Linked}
use Rattle.register.proofs.past_links.Given as goal

abbrev pub invariant-loop-floor : goal.invariant-loop-floor
invariant-loop-floor l = Linked l.s l.q l.fn.start.at l.at l.left l.floor l.v

abbrev pub decreases-loop-floor : goal.decreases-loop-floor
decreases-loop-floor l = length l.s - l.at
