-- `narrowing::ready` meets its contract: the sheet is judged first, then the question, and then the work area.
-- Assumes nothing.
use Rattle.std.proofs.lemmas.Result.{err_from_is_err_and}
use Rattle.narrowing.proofs.WholeCalls.{sheet_refused, question_refused, work_short, both_read}
use Rattle.narrowing.proofs.ready.Goals as goal

pub returns-in_err-about : goal.returns-in_err-about
returns-in_err-about c =
    let p = err_from_is_err_and c.from_residual.result c.from_residual.ensures.1 in
    rw (p.1, p.2) (sheet_refused _ _ _ c.read_into.ensures c.about.ensures c.in_err-about.was)

pub returns-in_err-question : goal.returns-in_err-question
returns-in_err-question c =
    let p = err_from_is_err_and c.from_residual-in_err-question.result c.from_residual-in_err-question.ensures.1 in
    rw (p.1, p.2) (question_refused _ _ _ c.read_into.ensures c.about.ensures c.in_ok-about.was c.read.ensures c.about-2.ensures c.in_err-question.was)

pub returns-then-work-lt-NEED : goal.returns-then-work-lt-NEED
returns-then-work-lt-NEED c =
    rw c.about-then-work-lt-NEED.ensures
    (work_short _ _ _ c.read_into.ensures c.about.ensures c.in_ok-about.was c.read.ensures c.about-2.ensures c.in_ok-question.was c.if-work-lt-NEED.true)

pub returns : goal.returns
returns c = both_read _ _ _ c.read_into.ensures c.about.ensures c.in_ok-about.was c.read.ensures c.about-2.ensures c.in_ok-question.was c.if-work-lt-NEED.false
