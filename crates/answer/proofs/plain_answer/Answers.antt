-- `answer::plain_answer` meets its contract: the refusal of the first file that has one, or the codes that were read make the path of the question, whose pairs `plain_in` gives.
-- Assumes nothing.
use mathlib.Core.Path.{◌≡◌, ap, ◌∙◌}
use Rattle.std.proofs.lemmas.Result.{err_from_is_err_and}
use Rattle.fields.specs.declared.Source.TheVariants as source
use Rattle.fields.proofs.Calls.{about_ok, about_err}
use Rattle.question.proofs.ReaderOutcome.{refused_question, told_question, told_front}
use Rattle.register.proofs.ReaderOutcome.{refused_file, accepted_file}
use Rattle.answer.proofs.WholeCalls.{plain_refused, plain_register, plain_accepted}
use Rattle.answer.proofs.Files.{codes_symbols, codes_path}
use Rattle.answer.proofs.plain_answer.Goals as goal

pub returns-in_err-q : goal.returns-in_err-q
returns-in_err-q c =
    let p = err_from_is_err_and c.from_residual.result c.from_residual.ensures.1 in
    let a = about_err source.Question c.read.result c.about.ensures c.in_err-q.was in
    rw (p.1, p.2, a.0) (plain_refused _ _ _ _ (refused_question _ _ c.read.ensures _ a.1))

pub returns-in_err-register : goal.returns-in_err-register
returns-in_err-register c =
    let p = err_from_is_err_and c.from_residual-in_err-register.result c.from_residual-in_err-register.ensures.1 in
    let (cs, t) = told_question _ _ c.read.ensures _ (about_ok source.Question c.read.result c.about.ensures c.in_ok-q.was) in
    let b = about_err source.Register c.read-2.result c.about-2.ensures c.in_err-register.was in
    rw (p.1, p.2, b.0) (plain_register _ _ _ _ cs t.reads (refused_file _ _ _ c.read-2.ensures.said _ b.1))

pub invariant_of-plain_in : goal.invariant_of-plain_in
invariant_of-plain_in c =
    let (cs, t) = told_question _ _ c.read.ensures _ (about_ok source.Question c.read.result c.about.ensures c.in_ok-q.was) in
    record { whole = codes_path _ _ cs t.reads (c.symbols-numbers.ensures ∙ told_front t) }

pub returns : goal.returns
returns c =
    let (cs, t) = told_question _ _ c.read.ensures _ (about_ok source.Question c.read.result c.about.ensures c.in_ok-q.was) in
    let b = about_ok source.Register c.read-2.result c.about-2.ensures c.in_ok-register.was in
    let f : c.new.result.register.file.now ≡ c.args.register.now = ap (λ x. x.file.now) c.new.ensures ∙ (rw b at c.read-2.ensures.file) in
    plain_accepted _ _ _ _ cs t.reads (accepted_file _ _ _ c.read-2.ensures.said _ b) _ (codes_symbols _ _ cs t.reads (c.symbols-numbers.ensures ∙ told_front t)) (rw f at c.plain_in.ensures)
