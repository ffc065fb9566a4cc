-- `rules::add_pair` meets its contract: the node of a pair has the triple that the two give, and two triples that do not fit give none.
-- Assumes nothing.
use Rattle.rules.proofs.Pairs.{pair_skipped, pair_candidate, pair_added}
use Rattle.rules.proofs.add_pair.Goals as goal

pub returns-then-not-fits : goal.returns-then-not-fits
returns-then-not-fits c = pair_skipped c.requires c.load-x.ensures c.load-y.ensures c.fits.ensures c.if-not-fits.true

pub add-requires : goal.add-requires
add-requires c =
    rw c.pair.ensures (pair_candidate c.requires c.load-x.ensures c.load-y.ensures c.fits.ensures c.if-not-fits.false)

pub returns : goal.returns
returns c =
    pair_added c.requires c.load-x.ensures c.load-y.ensures c.fits.ensures c.if-not-fits.false (rw c.pair.ensures at c.add.ensures)
