-- `job::job_words` meets its contract: the tests come in the order 14 for the answer, 11, 16, 12 or 13, 14 for the file; past them the file has the members that narrowing gives,
-- and `answer_file` their pairs.
-- Assumes nothing.
use mathlib.Core.Path.{sym}
use native.Mathlib.Omega.{arith}
use lib.Seq.{length-take-le}
use Rattle.std.proofs.lemmas.Result.{err_from_is_err_and}
use Rattle.job.proofs.Results.{codes_unnamed, codes_breached, codes_refused, file_within, file_members, codes_filed}
use Rattle.job.proofs.WholeCall.{fills_14, fills_rest}
use Rattle.job.proofs.job_words.Goals as goal

pub returns-then-answer-need : goal.returns-then-answer-need
returns-then-answer-need c = let e = c.size-need.ensures.0 in rw e (fills_14 _ (rw e at c.if-answer-need.true))

pub returns-in-Some : goal.returns-in-Some
returns-in-Some c =
    fills_rest _ (omega (arith, c.size-need.ensures.0, c.if-answer-need.false))
    (codes_unnamed c.requires.asked c.args.ground.now c.first_unnamed.ensures _ c.in-Some.is)

pub returns-in-Some-first_breach : goal.returns-in-Some-first_breach
returns-in-Some-first_breach c =
    fills_rest _ (omega (arith, c.size-need.ensures.0, c.if-answer-need.false))
    (codes_breached c.requires.asked c.args.ground.now c.first_unnamed.ensures c.in_default.is _ c.first_breach.ensures _ c.in-Some-first_breach.is)

pub returns-in_err-size : goal.returns-in_err-size
returns-in_err-size c =
    let p = err_from_is_err_and c.from_residual.result c.from_residual.ensures.1 in
    rw (p.1, p.2) (fills_rest _ (omega (arith, c.size-need.ensures.0, c.if-answer-need.false))
    (codes_refused c.requires.asked c.args.ground.now c.first_unnamed.ensures c.in_default.is _ c.first_breach.ensures c.in_default-first_breach.is c.narrow_named.ensures c.in_err-size.was))

pub slice_bounds-answer_file-end : goal.slice_bounds-answer_file-end
slice_bounds-answer_file-end c =
    file_within c.requires.asked c.args.ground.now c.first_unnamed.ensures c.in_default.is _ c.first_breach.ensures c.in_default-first_breach.is c.narrow_named.ensures c.in_ok-size.was

pub slice_bounds-answer_file-end-2 : goal.slice_bounds-answer_file-end-2
slice_bounds-answer_file-end-2 c =
    sym (length-take-le _ _
    (file_within c.requires.asked c.args.ground.now c.first_unnamed.ensures c.in_default.is _ c.first_breach.ensures c.in_default-first_breach.is c.narrow_named.ensures c.in_ok-size.was))

pub answer_file-requires-clause-written : goal.answer_file-requires-clause-written
answer_file-requires-clause-written c =
    file_members c.requires.asked c.args.ground.now c.first_unnamed.ensures c.in_default.is _ c.first_breach.ensures c.in_default-first_breach.is c.narrow_named.ensures c.in_ok-size.was

pub returns : goal.returns
returns c =
    fills_rest _ (omega (arith, c.size-need.ensures.0, c.if-answer-need.false))
    (codes_filed c.requires.asked c.args.ground.now c.first_unnamed.ensures c.in_default.is _ c.first_breach.ensures c.in_default-first_breach.is c.narrow_named.ensures c.in_ok-size.was
    (omega (arith, c.size-need.ensures.0, c.if-answer-need.false)) c.answer_file.ensures)
