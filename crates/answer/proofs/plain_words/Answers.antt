-- `answer::plain_words` meets its contract: 14 where the answer is too short, else the words of the path's relation, which has no pair past the last record.
-- Assumes nothing.
use Rattle.answer.proofs.Answered.{fills_plain}
use Rattle.evaluation.proofs.Grounds.{grounded, path_is}
use native.Mathlib.Omega.{arith}
use Rattle.answer.proofs.plain_words.Goals as goal

pub returns : goal.returns
returns c =
    let p = path_is _ c.args.path.now.whole in
    let e = c.size-need.ensures.0 in
    fills_plain (grounded c.args.ground.now) (omega (arith, e, c.if-answer-need.false)) (λ i. omega (arith, c.type_inv.answer i)) p.0 _ _ e p.1 (c.evaluate.ensures p.0 p.1) c.copy.ensures
