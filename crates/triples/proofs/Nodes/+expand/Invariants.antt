use Rattle.triples.proofs.Nodes.+expand.Given as goal

abbrev pub decreases-expand : goal.decreases-expand
decreases-expand l = l.i
