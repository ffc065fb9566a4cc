-- `kind_graph::round` meets its contract: the numbers so far, raised by the nodes from i on, are the start raised by all; a node weighs as the largest walk to it, joined with it.
use Rattle.kind_graph.proofs.Rounds.{Going}
use Rattle.kind_graph.specs.Sizes.{weight}
use Rattle.triples.specs.Parts.{part_of, triples_in}
use Prim.Native.Nat.{◌-◌}
use Rattle.kind_graph.proofs.round.Given as goal

abbrev pub invariant-loop-i : goal.invariant-loop-i
invariant-loop-i l =
    Going (weight l.best) (triples_in l.question l.words l.fn.xs) (part_of l.question l.words l.i (l.fn.xs.end - l.i)) l.initial.next l.next
