-- `printing::put_text` meets its contract: a turn writes byte i, and the bytes after it are what is left.
use Prim.Native.Nat.{◌≤◌}
use mathlib.Core.Path.{◌≡◌}
use lib.ListN.{length, drop}
use Rattle.printing.proofs.Filling.{Filling}
use Rattle.printing.proofs.put_text.Given as goal

abbrev pub invariant-loop-b : goal.invariant-loop-b
invariant-loop-b l = (l.b-index-end ≡ length l.s) × (l.b-index ≤ length l.s) × Filling l.initial.out l.at l.s l.out l.a (drop l.b-index l.s)
