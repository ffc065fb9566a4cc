-- `sheet::read_into` meets its contract: at each field the table has the bits of the triples read so far and no others, and the field that is refused is the definition's.
use Prim.Native.Nat.{◌-◌}
use lib.ListN.{length}
use mathlib.Core.Path.{◌≡◌}
use Rattle.sheet.proofs.Loop.{Progress}
use Rattle.sheet.proofs.read_into.Given as goal

abbrev pub invariant-loop-f : goal.invariant-loop-f
invariant-loop-f l = (l.reader.src.now ≡ l.s) × Progress l.s l.st l.reader.at l.sheet.table

abbrev pub decreases-loop-f : goal.decreases-loop-f
decreases-loop-f l = length l.s - l.reader.at
