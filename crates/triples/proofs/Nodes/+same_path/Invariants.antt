use Rattle.triples.proofs.Nodes.+same_path.Given as goal

abbrev pub decreases-same_path : goal.decreases-same_path
decreases-same_path l = l.a
