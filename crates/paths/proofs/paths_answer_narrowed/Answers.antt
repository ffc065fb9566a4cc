-- `paths::paths_answer_narrowed` meets its contract: both areas are as `narrowed_answer` left them, and `tell` tells its outcome.
-- Assumes nothing.
use Rattle.paths.proofs.OutcomeNumbers.{tells_call}
use Rattle.paths.proofs.paths_answer_narrowed.Goals as goal

pub returns : goal.returns
returns c = tells_call c.tell.ensures c.narrowed_answer.ensures
