-- `job::whole_job` meets its contract: the first file that is refused, or `job_in` on what was read; an accepted job's register obeys, so the pairs are the plain answer's (demand 3).
-- Assumes nothing.
use mathlib.Core.Path.{◌≡◌, ap, ◌∙◌}
use Rattle.std.proofs.lemmas.Result.{err_from_is_err_and}
use Rattle.fields.specs.declared.Source.TheVariants as source
use Rattle.fields.proofs.Calls.{about_ok, about_err}
use Rattle.sheet.proofs.ReaderOutcome.{refused_into, told_into}
use Rattle.question.proofs.ReaderOutcome.{refused_question, told_question, told_front}
use Rattle.register.proofs.ReaderOutcome.{refused_file}
use Rattle.job.proofs.WholeCall.{sheet_refused, question_refused, register_refused, files_read, tells, asked}
use Rattle.job.proofs.Accepted.{plain_by}
use Rattle.job.proofs.whole_job.Goals as goal

pub returns-in_err-about-clause-returns : goal.returns-in_err-about-clause-returns
returns-in_err-about-clause-returns c =
    let p = err_from_is_err_and c.from_residual.result c.from_residual.ensures.1 in
    let a = about_err source.Sheet c.read_into.result c.about.ensures c.in_err-about.was in
    rw (p.1, p.2, a.0) (sheet_refused _ _ _ _ _ _ (refused_into _ c.read_into.ensures _ a.1))

pub returns-in_err-q-clause-returns : goal.returns-in_err-q-clause-returns
returns-in_err-q-clause-returns c =
    let p = err_from_is_err_and c.from_residual-in_err-q.result c.from_residual-in_err-q.ensures.1 in
    let (S, d) = told_into _ c.read_into.ensures (about_ok source.Sheet c.read_into.result c.about.ensures c.in_ok-about.was) in
    let a = about_err source.Question c.read.result c.about-2.ensures c.in_err-q.was in
    rw (p.1, p.2, a.0) (question_refused _ _ _ _ _ _ S d.reads (refused_question _ _ c.read.ensures _ a.1))

pub returns-in_err-r-clause-returns : goal.returns-in_err-r-clause-returns
returns-in_err-r-clause-returns c =
    let p = err_from_is_err_and c.from_residual-in_err-r.result c.from_residual-in_err-r.ensures.1 in
    let (S, d) = told_into _ c.read_into.ensures (about_ok source.Sheet c.read_into.result c.about.ensures c.in_ok-about.was) in
    let (cs, t) = told_question _ _ c.read.ensures _ (about_ok source.Question c.read.result c.about-2.ensures c.in_ok-q.was) in
    let a = about_err source.Register c.read-2.result c.about-3.ensures c.in_err-r.was in
    rw (p.1, p.2, a.0) (register_refused _ _ _ _ _ _ S d.reads cs t.reads (refused_file _ _ _ c.read-2.ensures.said _ a.1))

pub job_in-size-requires : goal.job_in-size-requires
job_in-size-requires c =
    let (S, d) = told_into _ c.read_into.ensures (about_ok source.Sheet c.read_into.result c.about.ensures c.in_ok-about.was) in
    let (cs, t) = told_question _ _ c.read.ensures _ (about_ok source.Question c.read.result c.about-2.ensures c.in_ok-q.was) in
    rw c.symbols.ensures (asked d c.in_ok-q.q t)

pub returns : goal.returns
returns c =
    let (S, d) = told_into _ c.read_into.ensures (about_ok source.Sheet c.read_into.result c.about.ensures c.in_ok-about.was) in
    let (cs, t) = told_question _ _ c.read.ensures _ (about_ok source.Question c.read.result c.about-2.ensures c.in_ok-q.was) in
    let b = about_ok source.Register c.read-2.result c.about-3.ensures c.in_ok-r.was in
    let f : c.new-ground.result.register.file.now ≡ c.args.register.now = ap (λ x. x.file.now) c.new-ground.ensures ∙ (rw b at c.read-2.ensures.file) in
    let j = files_read _ _ _ _ _ _ S d.reads cs t.reads (tells d) f c.about-4.ensures (rw (c.symbols.ensures ∙ told_front t) at c.job_in-size.ensures) in
    record { returns = j; answers_plain = plain_by _ _ _ _ _ _ j }
