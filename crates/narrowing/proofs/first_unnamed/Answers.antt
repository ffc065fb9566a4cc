-- `narrowing::first_unnamed` meets its contract: the search ends at the first code that `unnamed` tells, and a symbol whose link has a name refuses nothing.
-- Assumes nothing.
use Rattle.std.proofs.Common.{rules}
use borrow.Author.Tests.{tests}
use Rattle.std.proofs.lemmas.Iterator.{YieldsList-from_slice, IsFirst-from_position}
use Rattle.narrowing.proofs.Links.{Lacks, Has, searched}
use Rattle.narrowing.proofs.first_unnamed.Goals as goal

pub returns : goal.returns
returns c =
    searched c.args.links c.args.symbols.now c.position.result
    (IsFirst-from_position _ _ c.position.result (Lacks c.args.links) (Has c.args.links) c.position.ensures.ran (YieldsList-from_slice c.args.symbols.now (cc))
    (λ x q k. search (rules, tests)) (λ x q k. (search (rules, tests), search (rules, tests))))
