-- `answer::narrowed_answer` meets its contract: its files are refused, or the members read are those of the file.
-- Assumes nothing.
use mathlib.Core.Path.{◌≡◌, ap, ◌∙◌}
use native.Mathlib.Omega.{arith}
use Rattle.std.proofs.lemmas.Result.{err_from_is_err_and}
use Rattle.fields.specs.declared.Source.TheVariants as source
use Rattle.fields.proofs.Calls.{about_ok, about_err}
use Rattle.narrowed_question.proofs.ArraysFilled.{blank_zeroed}
use Rattle.register.proofs.ReaderOutcome.{refused_file, accepted_file}
use Rattle.answer.proofs.WholeCalls.{narrowed_refused, narrowed_register, narrowed_accepted}
use Rattle.answer.proofs.Files.{file_refused, file_accepted}
use Rattle.answer.proofs.narrowed_answer.Goals as goal

pub read_into-requires : goal.read_into-requires
read_into-requires c = blank_zeroed c.blank-members.ensures

pub returns-in_err-about : goal.returns-in_err-about
returns-in_err-about c =
    let p = err_from_is_err_and c.from_residual.result c.from_residual.ensures.1 in
    let a = about_err source.Narrowed c.read_into.result c.about.ensures c.in_err-about.was in
    rw (p.1, p.2, a.0) (narrowed_refused _ _ _ _ (file_refused _ _ _ c.read_into.ensures _ a.1))

pub returns-in_err-register : goal.returns-in_err-register
returns-in_err-register c =
    let p = err_from_is_err_and c.from_residual-in_err-register.result c.from_residual-in_err-register.ensures.1 in
    let a = about_ok source.Narrowed c.read_into.result c.about.ensures c.in_ok-about.was in
    let q = file_accepted _ _ _ c.read_into.ensures a (λ i. omega (arith, c.type_inv.narrowed i)) in
    let b = about_err source.Register c.read.result c.about-2.ensures c.in_err-register.was in
    rw (p.1, p.2, b.0) (narrowed_register _ _ _ _ _ q.0 (refused_file _ _ _ c.read.ensures.said _ b.1))

pub narrowed_in-requires : goal.narrowed_in-requires
narrowed_in-requires c =
    let a = about_ok source.Narrowed c.read_into.result c.about.ensures c.in_ok-about.was in
    (file_accepted _ _ _ c.read_into.ensures a (λ i. omega (arith, c.type_inv.narrowed i))).1

pub returns : goal.returns
returns c =
    let a = about_ok source.Narrowed c.read_into.result c.about.ensures c.in_ok-about.was in
    let q = file_accepted _ _ _ c.read_into.ensures a (λ i. omega (arith, c.type_inv.narrowed i)) in
    let b = about_ok source.Register c.read.result c.about-2.ensures c.in_ok-register.was in
    let r : c.new.result.register.file.now ≡ c.args.register.now = ap (λ x. x.file.now) c.new.ensures ∙ (rw b at c.read.ensures.file) in
    narrowed_accepted _ _ _ _ _ q.0 (accepted_file _ _ _ c.read.ensures.said _ b) (rw r at c.narrowed_in.ensures)
