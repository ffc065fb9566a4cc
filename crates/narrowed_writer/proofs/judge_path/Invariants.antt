-- `narrowed_writer::judge_path` meets its contract: the verdict on the symbols left, from the stack and the place reached, is that on the whole path.
use Rattle.narrowed_writer.proofs.Judging.{AtSymbol}
use Rattle.narrowed_writer.proofs.judge_path.Given as goal

abbrev pub invariant-loop-number : goal.invariant-loop-number
invariant-loop-number l = AtSymbol l.numbers l.at l.q l.number-index l.place
