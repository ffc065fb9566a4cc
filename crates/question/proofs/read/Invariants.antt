-- `question::read` meets its contract: at each field the array has the codes read so far with zeros after them, and the field that is refused is the definition's.
use lib.ListN.{length}
use mathlib.Core.Path.{◌≡◌}
use Rattle.question.proofs.Loop.{Reading}
use Prim.Native.Nat.{◌-◌}
use Rattle.question.proofs.read.Given as goal

abbrev pub invariant-loop-f : goal.invariant-loop-f
invariant-loop-f l = Reading l.s l.st l.reader.at l.count l.codes × (l.reader.src.now ≡ l.s)

abbrev pub decreases-loop-f : goal.decreases-loop-f
decreases-loop-f l = length l.s - l.reader.at
