-- `paths::paths_answer` meets its contract: `plain_answer` leaves the outcome and both areas that are due, and `tell` only puts the outcome into three numbers.
-- Assumes nothing.
use Rattle.paths.proofs.OutcomeNumbers.{tells_call}
use Rattle.paths.proofs.paths_answer.Goals as goal

pub returns : goal.returns
returns c = tells_call c.tell.ensures c.plain_answer.ensures
