-- `paths::tell_file` meets its contract: a file is told by 0 and its two sizes, and no refusal has the number 0, so that 0 always tells of a file.
-- Assumes nothing.
use Rattle.paths.proofs.OutcomeNumbers.{tells_written, tells_unwritten}
use Rattle.paths.proofs.tell_file.Goals as goal

pub returns-in-Ok : goal.returns-in-Ok
returns-in-Ok c = tells_written c.in-Ok.is

pub returns-in-Err : goal.returns-in-Err
returns-in-Err c = tells_unwritten c.in-Err.is c.tell_failure.ensures
