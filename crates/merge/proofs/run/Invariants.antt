-- `merge::run` meets its contract: the arrays hold the merged member of the nodes from k to `next`, and the first node of other codes begins the next member.
use Rattle.merge.proofs.Merging.{Gathering}
use lib.ListN.{length}
use Prim.Native.Nat.{◌-◌}
use Rattle.merge.proofs.run.Given as goal

abbrev pub invariant-loop-next : goal.invariant-loop-next
invariant-loop-next l = Gathering l.nodes.question.now l.nodes.words.now l.order (length l.order) l.k l.codes l.sets l.size l.from l.to l.next

abbrev pub decreases-loop-next : goal.decreases-loop-next
decreases-loop-next l = length l.order - l.next
