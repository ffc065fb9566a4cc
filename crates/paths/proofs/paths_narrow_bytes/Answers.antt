-- `paths::paths_narrow_bytes` meets its contract: `narrowed_size` yields the size or the refusal and leaves the work words that are due, and `tell_file` tells the outcome.
-- Assumes nothing.
use Rattle.paths.proofs.OutcomeNumbers.{tells_call}
use Rattle.paths.proofs.paths_narrow_bytes.Goals as goal

pub returns : goal.returns
returns c = tells_call c.tell_file.ensures c.narrowed_size.ensures
