-- `kind_graph::edges` meets its contract: the pairs set so far, with the triples of the nodes from i on, are the edges of the whole part.
use Rattle.kind_graph.proofs.Linking.{Linking}
use Rattle.triples.specs.Parts.{part_of, triples_in}
use Prim.Native.Nat.{◌-◌}
use Rattle.kind_graph.proofs.edges.Given as goal

abbrev pub invariant-loop-i : goal.invariant-loop-i
invariant-loop-i l = Linking (triples_in l.question l.words l.fn.xs) (part_of l.question l.words l.i (l.fn.xs.end - l.i)) l.work
