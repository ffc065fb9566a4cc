-- `members_file::measure` meets its contract: what is counted, with the members of the nodes from k on, is always the whole file.
use Rattle.members_file.proofs.Counting.{Counting}
use lib.ListN.{length}
use Prim.Native.Nat.{◌-◌}
use Rattle.members_file.proofs.measure.Given as goal

abbrev pub invariant-loop-k : goal.invariant-loop-k
invariant-loop-k l = Counting l.nodes.question.now l.nodes.words.now l.order (length l.order) l.codes l.sets l.count l.bytes l.k

abbrev pub decreases-loop-k : goal.decreases-loop-k
decreases-loop-k l = length l.order - l.k
