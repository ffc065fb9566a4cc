-- `rules::step_rule` meets its contract: the triples of the step's matrix are those that the table permits, and a path of one step is never over 48 symbols.
-- Assumes nothing.
use Rattle.rules.proofs.Steps.{step_asks, step_told}
use Rattle.rules.proofs.step_rule.Goals as goal

pub add_edges-requires : goal.add_edges-requires
add_edges-requires c = rw c.encode.ensures (step_asks c.requires c.step_matrix.ensures)

pub returns : goal.returns
returns c =
    rw c.few.ensures (step_told c.requires c.step_matrix.ensures (rw c.encode.ensures at c.add_edges.ensures))
