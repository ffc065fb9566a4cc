-- `merge::kinds` meets its contract: 1 shifted by a kind below 64 is the set of that kind alone.
-- Assumes nothing.
use Rattle.triples.proofs.Expanding.{shl_singleton}
use Rattle.triples.specs.declared.Node.{Node}
use Rattle.theory.specs.KindSet.{singleton}
use mathlib.Core.Path.{ap, ◌∙◌}
use Rattle.merge.proofs.kinds.Goals as goal

pub returns : goal.returns
returns c = record {
  from_is = shl_singleton _ c.load-n.ensures.from_small ∙ ap (λ (n : Node). singleton n.from.0) c.load-n.ensures.is;
  to_is = shl_singleton _ c.load-n.ensures.to_small ∙ ap (λ (n : Node). singleton n.to.0) c.load-n.ensures.is;
}
