-- `shortening::shorten` meets its contract: the question's refusal, or the file of its shortened codes, is what `shorten_call` says once the file is read.
-- Assumes nothing.
use mathlib.Core.Path.{◌∙◌}
use mathlib.Core.List.{List}
use Prim.Native.Nat.{ℕ}
use Rattle.std.proofs.lemmas.Result.{err_from_is_err_and}
use Rattle.fields.proofs.Calls.{about_ok, about_err}
use Rattle.question.proofs.ReaderOutcome.{Told, refused_question, told_question}
use Rattle.shortening.proofs.Call.{asked, shortened, puts, question_refused}
use Rattle.shortening.proofs.shorten.Goals as goal
use Rattle.shortening.proofs.shorten.Goals.{In_ok-q}

-- the codes that the file hands on
handed_on : (c : In_ok-q) → (cs : List ℕ) × Told c.args.question.now c.in_ok-q.q.codes c.in_ok-q.q.count cs
handed_on c = told_question _ _ c.read.ensures _ (about_ok _ _ c.about.ensures c.in_ok-q.was)

pub returns-in_err-q : goal.returns-in_err-q
returns-in_err-q c =
    let p = err_from_is_err_and c.from_residual.result c.from_residual.ensures.1 in
    let (s, e) = about_err _ _ c.about.ensures c.in_err-q.was in
    rw (p.1, p.2, s) (question_refused _ _ (refused_question _ _ c.read.ensures _ e))

pub shorten_codes-short-requires : goal.shorten_codes-short-requires
shorten_codes-short-requires c = asked (handed_on (goal.at.shorten_codes-short-requires c).In_ok-q).1 c.symbols.ensures

pub returns : goal.returns
returns c =
    shortened (handed_on (goal.at.returns c).In_ok-q).1 c.symbols.ensures _ (puts _ _ (c.symbols-2.ensures ∙ c.shorten_codes-short.ensures) c.write.ensures)
