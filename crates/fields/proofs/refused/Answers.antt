-- `fields::refused` meets its contract: what lies there, and what its tag and length are to what is due, is a case of `judged`.
-- Assumes nothing.
use mathlib.Core.Path.{◌∙◌, sym}
use Rattle.fields.proofs.Raws.{judged_at, judged_headed, not_ended, not_whole}
use Rattle.fields.proofs.Rows.{told, told_within}
use Rattle.fields.proofs.refused.Goals as goal

pub returns-in-End : goal.returns-in-End
returns-in-End c = not_ended c.args.due.complete (judged_at _ _ _ c.step_at.ensures c.in-End.is) c.requires.0

pub returns-in-WrongEnd : goal.returns-in-WrongEnd
returns-in-WrongEnd c = sym (judged_at c.args.due _ _ c.step_at.ensures c.in-Cut.is ∙ rw (told c.args.due _ _ c.fit_of.ensures c.in-WrongEnd.is))

pub returns-in_default : goal.returns-in_default
returns-in_default c = sym (judged_at c.args.due _ _ c.step_at.ensures c.in-Cut.is ∙ rw (told_within c.args.due _ _ c.fit_of.ensures c.in_default.not-WrongEnd))

pub returns-in-Fits : goal.returns-in-Fits
returns-in-Fits c =
    let f = told c.args.due _ _ c.fit_of-in-Short.ensures c.in-Fits.is in
    let j = judged_headed c.args.due _ _ c.step_at.ensures c.in-Short.is in
    not_whole c.in-Short.tag c.in-Short.len j.0 (j.1 ∙ rw (f.0, f.1)) c.requires.1

pub returns-in-Unexpected : goal.returns-in-Unexpected
returns-in-Unexpected c =
    let f = told c.args.due _ _ c.fit_of-in-Short.ensures c.in-Unexpected.is in
    let j = judged_headed c.args.due _ _ c.step_at.ensures c.in-Short.is in
    sym (j.1 ∙ rw (f.0, f.1))

pub returns-in-WrongEnd-fit_of : goal.returns-in-WrongEnd-fit_of
returns-in-WrongEnd-fit_of c =
    let f = told c.args.due _ _ c.fit_of-in-Short.ensures c.in-WrongEnd-fit_of.is in
    let j = judged_headed c.args.due _ _ c.step_at.ensures c.in-Short.is in
    sym (j.1 ∙ rw f)
