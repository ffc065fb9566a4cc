-- `paths::judge_question` meets its contract: the reader of questions refuses where the form does, with its number and place, and the codes that it hands out are the form's.
-- Assumes nothing.
use mathlib.Core.Path.{◌∙◌}
use Rattle.question.proofs.ReaderOutcome.{refused_question, told_question}
use Rattle.paths.proofs.Judging.{judged_is}
use Rattle.paths.proofs.judge_question.Goals as goal

pub returns : goal.returns
returns c =
    let h = c.read.ensures in
    c.judge.ensures ∙ judged_is _ _ _ (refused_question _ _ h) (λ x e. let t = told_question _ _ h x e in (t.0, t.1.reads))
