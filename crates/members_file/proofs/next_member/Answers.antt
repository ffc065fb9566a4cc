-- `members_file::next_member` meets its contract: the codes of the run's member become numbers, which are the symbols of its path, and its bytes are those of 42 and of the symbols.
-- Assumes nothing.
use Rattle.members_file.proofs.Counting.{entry_is}
use Rattle.members_file.proofs.next_member.Goals as goal

pub returns : goal.returns
returns c = entry_is c.run-group.ensures c.number_symbols-b.ensures
