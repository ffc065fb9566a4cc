-- `triples::copy` meets its contract: the symbols before j are written.
use mathlib.Core.Path.{◌≡◌}
use lib.ListN.{take, drop}
use lib.Seq.{sets}
use Prim.Native.Nat.{◌≤◌}
use Rattle.triples.proofs.copy.Given as goal

abbrev pub invariant-loop-j : goal.invariant-loop-j
invariant-loop-j l = (l.j ≤ l.n) × (l.codes ≡ sets l.initial.codes l.at (take l.j (drop l.s l.question)))
