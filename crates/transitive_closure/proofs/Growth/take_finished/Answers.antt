-- `Growth::take_finished` meets its contract: what is left loses first what row k has and then k.
-- Assumes nothing.
use mathlib.Core.Path.{refl}
use Rattle.transitive_closure.proofs.Rows.{took_finished}
use Rattle.transitive_closure.proofs.Growth.take_finished.Goals as goal

pub returns : goal.returns
returns c = (refl, took_finished c.args.work.now c.args.d c.args.k c.unite.ensures c.exclude.ensures c.unset.ensures c.requires.2)
