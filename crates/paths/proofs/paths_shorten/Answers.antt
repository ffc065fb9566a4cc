-- `paths::paths_shorten` meets its contract: what shortening yields is what `tell_file` tells.
-- Assumes nothing.
use Rattle.paths.proofs.OutcomeNumbers.{tells_output}
use Rattle.paths.proofs.paths_shorten.Goals as goal

pub returns : goal.returns
returns c = tells_output c.tell_file.ensures c.shorten.ensures
