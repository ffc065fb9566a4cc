-- `rules::repeats` meets its contract: a branch left drops the to kind of its left triple, so two nodes with equal from kinds and paths give the same row with any part.
-- Assumes nothing.
use Rattle.triples.proofs.Comparing.{unlike}
use Rattle.rules.proofs.Repeating.{found_row}
use Rattle.rules.proofs.repeats.Goals.{in-BranchLeft, in_default}
use Rattle.rules.proofs.repeats.Goals as goal

pub returns-then-matches : goal.returns-then-matches
returns-then-matches c =
    elim c.match-matches.branch [ in-BranchLeft w ↦ found_row w.in-BranchLeft.is c.stands_alike.ensures | in_default w ↦ unlike w.matches-is c.if-matches.true ]
