-- `merge::place` meets its contract: each node that comes before t moves one place to the front, and t takes the place in front of the first that does not.
use Rattle.merge.proofs.Sorting.{Going}
use lib.ListN.{length}
use Prim.Native.Nat.{◌-◌}
use Rattle.merge.proofs.place.Given as goal

abbrev pub invariant-loop-k : goal.invariant-loop-k
invariant-loop-k l = Going l.nodes.question.now l.nodes.words.now l.initial.order l.order l.nodes.used l.i (length l.initial.order) l.t l.k

abbrev pub decreases-loop-k : goal.decreases-loop-k
decreases-loop-k l = length l.initial.order - l.k
