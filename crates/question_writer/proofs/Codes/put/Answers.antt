-- `question_writer::Codes::put` meets its contract: the head and the symbols, one after the other, are the file; symbols that are lent sets of 0 have none.
-- Assumes nothing.
use native.Mathlib.Omega.{arith}
use Rattle.question_writer.proofs.Putting.{head_room, symbols_room, question_put}
use Rattle.question_writer.proofs.Codes.put.Goals as goal

pub put_count-a-requires : goal.put_count-a-requires
put_count-a-requires c = head_room _ c.args.self.few c.requires

pub put_symbols-requires : goal.put_symbols-requires
put_symbols-requires c = (omega arith, (omega (arith, c.args.self.few), symbols_room _ c.args.self.few c.put_count-a.ensures c.requires))

pub returns : goal.returns
returns c = question_put _ c.args.self.few c.put_count-a.ensures c.put_symbols.ensures
