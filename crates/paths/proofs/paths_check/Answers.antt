-- `paths::paths_check` meets its contract: the outcome that `check` yields is what `tell` puts into three numbers.
-- Assumes nothing.
use Rattle.paths.proofs.paths_check.Goals as goal

pub returns : goal.returns
returns c = rw c.check.ensures at c.tell.ensures
