-- `rules::add_edge` meets its contract: the node needs no other, so that from kind a to kind b it has its path; and where the matrix lacks the bit there is no triple to add.
-- Assumes nothing.
use Rattle.rules.proofs.Edges.{edge_skipped, edge_candidate, edge_added}
use Rattle.rules.proofs.add_edge.Goals as goal

pub returns-then-not-has : goal.returns-then-not-has
returns-then-not-has c = edge_skipped c.requires (rw (c.from.ensures, c.from-2.ensures) at c.has.ensures) c.if-not-has.true

pub add-requires : goal.add-requires
add-requires c = edge_candidate c.requires

pub returns : goal.returns
returns c =
    edge_added c.requires (rw (c.from.ensures, c.from-2.ensures) at c.has.ensures) c.if-not-has.false c.add.ensures
