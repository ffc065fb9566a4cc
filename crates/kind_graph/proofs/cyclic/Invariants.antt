-- `kind_graph::cyclic` meets its contract: of the kinds before z the mask has those whose own bit is set in their row.
use Rattle.rows.specs.Row.{row_bit, Row, mask_of}
use Prim.Native.Nat.{◌≤◌}
use Rattle.kind_graph.proofs.cyclic.Given as goal

abbrev pub invariant-loop-z : goal.invariant-loop-z
invariant-loop-z l = (l.z ≤ 64) × Row 0 1 (mask_of (λ k. row_bit l.work k k) l.z) l.initial.mask l.mask
