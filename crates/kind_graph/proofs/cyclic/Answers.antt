-- `kind_graph::cyclic` meets its contract: of the kinds before z the mask has those whose own bit is set in their row.
-- Assumes nothing.
use mathlib.Core.Bool.{Bool}
use Rattle.rows.specs.Row.{row_bit}
use Rattle.rows.proofs.Masks.{mask_none, mask_more}
use Rattle.rows.proofs.Rows.{row_now}
use Prim.Native.Nat.{ℕ}
use native.Mathlib.Omega.{arith}
use Rattle.kind_graph.proofs.cyclic.Goals as goal

pub loop-z-init : goal.loop-z-init
loop-z-init c = (omega arith, row_now (mask_none _ c.clear.ensures))

pub loop-z-preserved : goal.loop-z-preserved
loop-z-preserved c =
    let a = c.args in
    let f : ℕ → Bool = λ k. row_bit a.work.now k k in
    (omega arith, mask_more f c.loop-z.z _ c.loop-z.invariant.1 c.has-b.ensures c.set_if.ensures (omega arith))
