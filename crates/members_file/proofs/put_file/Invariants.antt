-- `members_file::put_file` meets its contract: what is written, followed by the members of the nodes from k on, is always the whole file, for which there is room.
use Rattle.members_file.proofs.Filling.{Filling}
use lib.ListN.{length}
use Prim.Native.Nat.{◌-◌}
use Rattle.members_file.proofs.put_file.Given as goal

abbrev pub invariant-loop-k : goal.invariant-loop-k
invariant-loop-k l = Filling l.nodes.question.now l.nodes.words.now l.order (length l.order) l.initial.out l.initial.at l.out l.codes l.sets l.at l.k

abbrev pub decreases-loop-k : goal.decreases-loop-k
decreases-loop-k l = length l.order - l.k
