-- `Growth::reach` meets its contract: at each turn the row lies between row s and the closure's, and where a step took nothing in it is the closure's.
-- Assumes nothing.
use Rattle.rows.proofs.Words.{kept_trans}
use Rattle.transitive_closure.proofs.Rows.{growing_all}
use native.Mathlib.Omega.{arith}
use Rattle.transitive_closure.proofs.Growth.reach.Goals as goal

pub returns : goal.returns
returns c =
    let i = c.loop-p.invariant in
    let t = rw i.0 at c.step.ensures.1 in
    record {
      kept = kept_trans i.1 t.grown.kept (omega arith) (omega arith) (omega arith) (omega arith);
      bit = growing_all c.requires.0 t.grown.growing (t.over c.loop-p-test.false);
    }
