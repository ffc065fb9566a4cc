-- `answer::plain_in` meets its contract: 15 where the work words are too few, else the outcome of `plain_words`, which changed no work word but those that are cleared.
-- Assumes nothing.
use mathlib.Core.Path.{sym}
use Rattle.evaluation.proofs.Grounds.{grounded}
use Rattle.answer.proofs.Answered.{answers_15, answers_rest}
use native.Mathlib.Omega.{arith}
use Rattle.answer.proofs.plain_in.Goals as goal

pub returns-then-work-need : goal.returns-then-work-need
returns-then-work-need c =
    let g = (grounded c.args.ground.now) in
    let e = c.size-need.ensures.0 in
    rw (c.about.ensures, e) (answers_15 _ _ _ _ g.count (sym g.wide) (rw e at c.if-work-need.true))

pub returns : goal.returns
returns c =
    let g = (grounded c.args.ground.now) in
    let e = c.size-need.ensures.0 in
    answers_rest _ _ _ _ g.count (sym g.wide) _ _ _ _ _ (omega (arith, e)) c.if-work-need.false c.plain_words-o.ensures c.clear.ensures
