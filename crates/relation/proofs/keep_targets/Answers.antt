-- `relation::keep_targets` meets its contract: the rows before s have lost the bits that the mask lacks, and those from s on are as they were.
-- Assumes nothing.
use Rattle.relation.proofs.Combining.{combined_more}
use Rattle.rows.specs.Row.{row_bit}
use mathlib.Core.Path.{refl}
use mathlib.Core.Bool.{◌&&◌}
use native.Mathlib.Omega.{arith}
use Rattle.relation.proofs.keep_targets.Goals as goal

pub loop-s-preserved : goal.loop-s-preserved
loop-s-preserved c =
    let m = c.args.mask.now in
    (omega arith, combined_more ◌&&◌ (λ i. row_bit m 0) (row_bit m 0) c.loop-s.invariant.1 c.restrict.ensures (λ t h. refl))
