-- `register::read` meets its contract: what is read so far is what the definition has read of it (`Reading`), and each field comes closer to the file's end.
use Rattle.register.proofs.Loop.{Reading}
use lib.ListN.{length}
use Prim.Native.Nat.{◌-◌}
use mathlib.Core.Path.{◌≡◌}
use Rattle.register.proofs.read.Given as goal

abbrev pub invariant-loop-f : goal.invariant-loop-f
invariant-loop-f l = (l.reader.src.now ≡ l.s) × Reading l.s l.st l.reader.at

abbrev pub decreases-loop-f : goal.decreases-loop-f
decreases-loop-f l = length l.s - l.reader.at
