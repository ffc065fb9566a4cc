-- `paths::judge_sheet` meets its contract: `sheet::read` tells the refusal of the form, or accepts a file whose sheet the form reads.
-- Assumes nothing.
use mathlib.Core.Path.{◌∙◌}
use Rattle.sheet.proofs.ReaderOutcome.{refused_sheet, told_sheet}
use Rattle.paths.proofs.Judging.{judged_is}
use Rattle.paths.proofs.judge_sheet.Goals as goal

pub returns : goal.returns
returns c =
    let h = c.read.ensures in
    c.judge.ensures ∙ judged_is _ _ _ (refused_sheet _ _ h) (λ x e. let t = told_sheet _ _ h x e in (t.0, t.1.reads))
