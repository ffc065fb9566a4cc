-- `kind_graph::walks_short` meets its contract: each round has the largest walks of one triple more, and after a round without a walk there are none.
use Rattle.kind_graph.proofs.Rounds.{Rounds}
use Rattle.triples.specs.Parts.{triples_in}
use Rattle.kind_graph.proofs.walks_short.Given as goal

abbrev pub invariant-loop : goal.invariant-loop
invariant-loop l = Rounds (triples_in l.question l.words l.xs) l.counter l.best
