-- `rules::add_edges` meets its contract: a turn adds the triples from kind a, and those from the kinds after a are what is left to add.
use Rattle.rules.specs.Outcome.{with_new}
use Rattle.rules.proofs.Ranging.{Ranging}
use Rattle.rules.specs.EdgeTriples.{edges_from, edges_of, leaf_path}
use Prim.Native.Nat.{◌+◌}
use Rattle.rules.proofs.add_edges.Given as goal

abbrev pub invariant-loop-a : goal.invariant-loop-a
invariant-loop-a l =
    Ranging l.question l.initial.words l.words (l.s + l.start) l.s l.count (with_new l.question l.initial.words l.s l.start (edges_of l.matrix (leaf_path l.question l.node) l.kinds))
    (edges_from l.matrix (leaf_path l.question l.node) l.kinds) l.a l.kinds
