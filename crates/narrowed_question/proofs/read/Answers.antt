-- `narrowed_question::read` meets its contract: a struct without members is lent.
-- Assumes nothing.
use Rattle.narrowed_question.proofs.ArraysFilled.{blank_zeroed}
use Rattle.narrowed_question.proofs.read.Goals as goal

pub read_into-requires : goal.read_into-requires
read_into-requires c = blank_zeroed c.blank-members.ensures
