-- `conformance::check` meets its contract: a refused file comes first, then the breach found by the sheet's own table, which permits what the sheet does.
-- Assumes nothing.
use mathlib.Core.Path.{◌≡◌}
use Rattle.std.proofs.lemmas.Result.{err_from_is_err_and}
use Rattle.fields.specs.declared.Source.TheVariants as source
use Rattle.fields.proofs.Calls.{about_ok, about_err}
use Rattle.conformance.specs.Check.{obeying, check_of}
use Rattle.conformance.specs.Contract.{failing_said}
use Rattle.conformance.proofs.Checked.{sheet_refused, register_refused, checked}
use Rattle.conformance.proofs.check.Goals.{After-first_breach}
use Rattle.conformance.proofs.check.Goals as goal

pub returns-in_err-about : goal.returns-in_err-about
returns-in_err-about c =
    let p = err_from_is_err_and c.from_residual.result c.from_residual.ensures.1 in
    let a = about_err source.Sheet c.read_into.result c.about.ensures c.in_err-about.was in
    rw (p.1, p.2, a.0) (sheet_refused _ _ c.read_into.ensures a.1)

pub returns-in_err-register : goal.returns-in_err-register
returns-in_err-register c =
    let p = err_from_is_err_and c.from_residual-in_err-register.result c.from_residual-in_err-register.ensures.1 in
    let a = about_ok source.Sheet c.read_into.result c.about.ensures c.in_ok-about.was in
    let b = about_err source.Register c.read.result c.about-2.ensures c.in_err-register.was in
    rw (p.1, p.2, b.0) (register_refused _ _ c.read_into.ensures a _ c.read.ensures.said b.1)

-- where both were read
whole : (c : After-first_breach) → obeying (failing_said c.first_breach.result) ≡ check_of c.args.sheet.now c.args.register.now
whole c =
    let a = about_ok source.Sheet c.read_into.result c.about.ensures c.in_ok-about.was in
    let b = about_ok source.Register c.read.result c.about-2.ensures c.in_ok-register.was in
    let e : c.in_ok-register.register.file.now ≡ c.args.register.now = rw b at c.read.ensures.file in
    checked _ _ c.read_into.ensures a _ c.read.ensures.said b c.first_breach.result
    (rw e at c.first_breach.ensures)

pub returns-in-Some : goal.returns-in-Some
returns-in-Some c = rw (c.about-in-Some.ensures) (rw c.in-Some.is at (whole (goal.at.returns-in-Some c).After-first_breach))

pub returns-in-None : goal.returns-in-None
returns-in-None c = rw c.in-None.is at (whole (goal.at.returns-in-None c).After-first_breach)
