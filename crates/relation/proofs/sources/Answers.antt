-- `relation::sources` meets its contract: each turn makes one word of the mask, up to the last record and then of none.
-- Assumes nothing.
use Rattle.rows.proofs.Masks.{begins_more, mask_from}
use native.Mathlib.Omega.{arith}
use Rattle.relation.proofs.sources.Goals as goal

pub loop-i-preserved : goal.loop-i-preserved
loop-i-preserved c =
    let v = c.loop-i.invariant in
    let m = c.in_word-m.ensures in
    (omega arith, begins_more v.1 m.0 m.1 m.2, mask_from _ v.2 v.1 c.source_word.ensures m.1 m.2 (omega (arith, v.2.kept.len)))
