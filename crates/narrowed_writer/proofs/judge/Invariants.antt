-- `narrowed_writer::judge` meets its contract: the verdict on the members from the i-th on, given the one before and the place, is that on all members.
use Rattle.narrowed_writer.proofs.Judging.{AtMember}
use Rattle.narrowed_writer.proofs.judge.Given as goal

abbrev pub invariant-loop-n : goal.invariant-loop-n
invariant-loop-n l = AtMember l.q l.n-index l.at l.prev l.first
