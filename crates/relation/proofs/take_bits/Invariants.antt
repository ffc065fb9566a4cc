-- `relation::take_bits` meets its contract: the rows of the bits below p are taken in, and the bits of v from p on are still to come.
use mathlib.Core.Path.{◌≡◌}
use Prim.Native.Nat.{ℕ, ◌≤◌}
use Rattle.rows.specs.Row.{Row}
use Rattle.rows.specs.BitList.{ones}
use Rattle.rows.proofs.BitLists.{ones_from}
use Rattle.relation.specs.Pairs.{taken}
use Rattle.relation.proofs.take_bits.Given as goal

abbrev pub invariant-loop-k : goal.invariant-loop-k
invariant-loop-k l =
    ((p : ℕ) × (p ≤ 64) × (ones (l.k-iterator).0 ≡ ones_from l.v p) × Row 0 l.w (taken l.initial.row l.work l.q l.w l.g l.v p) l.initial.row l.row)
