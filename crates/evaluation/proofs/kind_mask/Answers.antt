-- `evaluation::kind_mask` meets its contract: a turn makes one word, of the 64 records that it stands for or of all that are left.
-- Assumes nothing.
use Rattle.rows.proofs.Masks.{mask_word}
use Rattle.evaluation.proofs.Grounds.{grounded, narrow}
use native.Mathlib.Omega.{arith}
use Rattle.evaluation.proofs.kind_mask.Goals as goal

pub overflow_mul-g : goal.overflow_mul-g
overflow_mul-g c = omega (arith, narrow (grounded c.args.ground.now))

pub loop-i-preserved : goal.loop-i-preserved
loop-i-preserved c =
    let l = c in
    let m = c.in_word.ensures in
    (omega arith, mask_word _ l.loop-i.invariant.1 c.kind_word.ensures m.1 m.2 (omega (arith, l.loop-i.invariant.1.kept.len)))
