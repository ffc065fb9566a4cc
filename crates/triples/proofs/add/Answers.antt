-- `triples::add` meets its contract: the node is stored after the part and counted only where no triple of the part is equal, and no node of the part has changed.
-- Assumes nothing.
use mathlib.Core.Path.{sym, ◌∙◌}
use native.Mathlib.Omega.{arith}
use Rattle.triples.proofs.Growing.{has_new, added_no, added_yes}
use Rattle.triples.proofs.add.Goals as goal

pub stands-requires : goal.stands-requires
stands-requires c = (has_new c.requires c.store.ensures, omega arith)

pub returns-then-stands : goal.returns-then-stands
returns-then-stands c = added_no c.requires c.store.ensures (sym c.stands.ensures ∙ c.if-stands.true)

pub returns : goal.returns
returns c =
    added_yes c.requires c.store.ensures (sym c.stands.ensures ∙ c.if-stands.false)
