-- `kind_graph::graph` meets its contract: the closed edges are the walks; joined through the cyclic kinds they are those that meet one, at an end too, as a walk leads from it to itself.
-- Assumes nothing.
use Rattle.kind_graph.proofs.Linking.{linked}
use Rattle.kind_graph.proofs.graph.Goals as goal

pub returns : goal.returns
returns c = linked c.edges.ensures c.closure.ensures c.cyclic.ensures c.double.ensures c.join.ensures
