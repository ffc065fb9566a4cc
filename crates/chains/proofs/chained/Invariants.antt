-- `chains::chained` meets its contract: each pair of symbols that was passed is a step and a join through a set.
use mathlib.Core.Path.{◌≡◌}
use lib.ListN.{length}
use Rattle.chains.specs.Chain.{Chained}
use Prim.Native.Nat.{◌/◌, ◌≤◌}
use Rattle.chains.proofs.chained.Given as goal

abbrev pub invariant-loop-j : goal.invariant-loop-j
invariant-loop-j l = (l.j ≤ length l.numbers / 2) × (l.j-end ≡ length l.numbers / 2) × Chained l.numbers l.j
