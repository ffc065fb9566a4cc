-- `answer::narrowed_in` meets its contract: 15, or what `narrowed_words` did, with the work words cleared.
-- Assumes nothing.
use mathlib.Core.Path.{sym}
use Rattle.evaluation.proofs.Grounds.{grounded}
use Rattle.answer.proofs.Answered.{answers_15, answers_rest}
use native.Mathlib.Omega.{arith}
use Rattle.answer.proofs.narrowed_in.Goals as goal

pub returns-then-work-room : goal.returns-then-work-room
returns-then-work-room c =
    let g = (grounded c.args.ground.now) in
    let e = c.size-room.ensures.0 in
    rw (c.about.ensures, e) (answers_15 _ _ _ _ g.count (sym g.wide) (rw e at c.if-work-room.true))

pub returns : goal.returns
returns c =
    let g = (grounded c.args.ground.now) in
    let e = c.size-room.ensures.0 in
    answers_rest _ _ _ _ g.count (sym g.wide) _ _ _ _ _ (omega (arith, e)) c.if-work-room.false c.narrowed_words-o.ensures c.clear.ensures
