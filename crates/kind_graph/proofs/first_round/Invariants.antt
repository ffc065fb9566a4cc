-- `kind_graph::first_round` meets its contract: the numbers so far, raised by the nodes from i on, are the start raised by the whole part; a node's size is that of its path.
use Rattle.kind_graph.proofs.Rounds.{Going}
use Rattle.kind_graph.specs.Sizes.{size_of}
use Rattle.triples.specs.Parts.{part_of, triples_in}
use Prim.Native.Nat.{◌-◌}
use Rattle.kind_graph.proofs.first_round.Given as goal

abbrev pub invariant-loop-i : goal.invariant-loop-i
invariant-loop-i l = Going size_of (triples_in l.question l.words l.fn.xs) (part_of l.question l.words l.i (l.fn.xs.end - l.i)) l.initial.next l.next
