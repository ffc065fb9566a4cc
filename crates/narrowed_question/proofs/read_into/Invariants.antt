-- `narrowed_question::read_into` meets its contract: at each field the arrays hold the members read so far.
use lib.ListN.{length}
use mathlib.Core.Path.{◌≡◌}
use Rattle.narrowed_question.proofs.Loop.{Reading}
use Prim.Native.Nat.{◌-◌}
use Rattle.narrowed_question.proofs.read_into.Given as goal

abbrev pub invariant-loop-f : goal.invariant-loop-f
invariant-loop-f l = Reading l.s l.st l.reader.at l.done l.prev l.first l.used l.members × (l.members.count ≡ 0) × (l.reader.src.now ≡ l.s)

abbrev pub decreases-loop-f : goal.decreases-loop-f
decreases-loop-f l = length l.s - l.reader.at
