-- `merge::arrange` meets its contract: it is an insertion sort from the last node to the first, in which those from s + i on always stand sorted at i to n.
use lib.ListN.{length}
use Rattle.merge.specs.Arranging.{Arranged}
use Rattle.merge.proofs.arrange.Given as goal

abbrev pub invariant-loop-i : goal.invariant-loop-i
invariant-loop-i l = Arranged l.nodes.question.now l.nodes.words.now l.initial.order l.order l.nodes.used l.s (length l.initial.order) l.i
