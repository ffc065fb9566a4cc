-- `paths::tell` meets its contract: where nothing more is told, three zeros tell of acceptance; a refusal is told by its own numbers, none of which is 0.
-- Assumes nothing.
use Rattle.paths.proofs.OutcomeNumbers.{tells_nothing, tells_refused}
use Rattle.paths.proofs.tell.Goals as goal

pub returns-in-Ok : goal.returns-in-Ok
returns-in-Ok c = tells_nothing c.in-Ok.is c.tell_file.ensures

pub returns-in-Err : goal.returns-in-Err
returns-in-Err c = tells_refused c.in-Err.is c.tell_failure.ensures
