-- `evaluation::add_link` meets its contract: a link named l leads from its first record to its second, or back where the step is reversed, and a link of another name adds no pair.
-- Assumes nothing.
use Rattle.evaluation.proofs.Links.{named_same, named_other, made_forward, made_reverse, made_neither}
use Rattle.symbols.specs.Contract.{direction_said}
use Rattle.evaluation.proofs.add_link.Goals as goal

pub returns-then-ne : goal.returns-then-ne
returns-then-ne c =
    let a = c.args in
    made_neither a.e.from a.e.link.0 a.e.to a.l.0 _ _ _ _ (direction_said a.direction) (named_other _ _ _ c.ne.ensures c.if-ne.true)

pub returns-in-Forward : goal.returns-in-Forward
returns-in-Forward c = rw c.in-Forward.is (made_forward _ _ _ _ (named_same _ _ _ c.ne.ensures c.if-ne.false) c.set_pair.ensures)

pub returns-in-Reverse : goal.returns-in-Reverse
returns-in-Reverse c = rw c.in-Reverse.is (made_reverse _ _ _ _ (named_same _ _ _ c.ne.ensures c.if-ne.false) c.set_pair-in-Reverse.ensures)
