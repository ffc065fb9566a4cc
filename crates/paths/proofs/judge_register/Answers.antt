-- `paths::judge_register` meets its contract: `register::read` tells the refusal of the form, or accepts a file that the form reads as a register.
-- Assumes nothing.
use mathlib.Core.Path.{◌∙◌}
use Rattle.register.proofs.ReaderOutcome.{refused_file, accepted_file}
use Rattle.paths.proofs.Judging.{judged_is}
use Rattle.paths.proofs.judge_register.Goals as goal

pub returns : goal.returns
returns c =
    let h = c.read.ensures.said in
    c.judge.ensures ∙ judged_is _ _ _ (refused_file _ _ _ h) (λ x e. (_, accepted_file _ _ _ h x e))
