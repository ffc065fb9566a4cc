-- `paths::judge_narrowed` meets its contract: the reader of narrowed questions refuses where the form does, with its number and place, and what it accepts the form reads.
-- Assumes nothing.
use mathlib.Core.Path.{◌∙◌}
use Rattle.paths.proofs.Judging.{judged_is, refused_narrowed, told_narrowed}
use Rattle.paths.proofs.judge_narrowed.Goals as goal

pub returns : goal.returns
returns c =
    let h = c.read.ensures in
    c.judge.ensures ∙ judged_is _ _ _ (refused_narrowed _ _ h) (told_narrowed _ _ h)
