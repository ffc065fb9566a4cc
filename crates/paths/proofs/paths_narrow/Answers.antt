-- `paths::paths_narrow` meets its contract: work words and file are as `narrowing` left them, and `tell_file` tells the members and bytes, or the refusal.
-- Assumes nothing.
use Rattle.paths.proofs.OutcomeNumbers.{tells_call}
use Rattle.paths.proofs.paths_narrow.Goals as goal

pub returns : goal.returns
returns c = tells_call c.tell_file.ensures c.narrowing.ensures
