-- `rules::add_edges_from` meets its contract: a turn adds the triple to kind b, where the matrix has it, and those to the kinds after b are left; a word of 0 has none.
use Rattle.rules.specs.Outcome.{with_new}
use Rattle.rules.proofs.Ranging.{Ranging}
use Rattle.rules.specs.EdgeTriples.{edge_at, edges_from, leaf_path}
use Prim.Native.Nat.{◌+◌}
use Rattle.rules.proofs.add_edges_from.Given as goal

abbrev pub invariant-loop-b : goal.invariant-loop-b
invariant-loop-b l =
    Ranging l.question l.initial.words l.words (l.s + l.start) l.s l.count (with_new l.question l.initial.words l.s l.start (edges_from l.matrix (leaf_path l.question l.node) l.kinds l.a.0))
    (edge_at l.matrix (leaf_path l.question l.node) l.a.0) l.b l.kinds
