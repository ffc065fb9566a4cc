-- `evaluation::kind_word` meets its contract: a turn moves the bit that the set has for the record's kind to the record's place, and changes no other bit.
-- Assumes nothing.
use Rattle.rows.proofs.Masks.{word_none, word_more}
use Rattle.register.proofs.AcceptedRegister.{accepted_register}
use Rattle.evaluation.proofs.KindBits.{kind_moved}
use Prim.Native.Nat.{◌+◌}
use native.Mathlib.Omega.{arith}
use Rattle.evaluation.proofs.kind_word.Goals as goal

pub loop-i-init : goal.loop-i-init
loop-i-init c = (omega arith, word_none _)

pub overflow_add-g : goal.overflow_add-g
overflow_add-g c = let r = c.args.register.now in omega (arith, r.counted, (accepted_register _ _ r.accepted).few_records)

pub overflow_shr-v : goal.overflow_shr-v
overflow_shr-v c =
    let k = (accepted_register _ _ c.args.register.now.accepted).kinds (c.args.g + c.loop-i.i) in
    omega (arith, c.kind_at.ensures)

pub loop-i-preserved : goal.loop-i-preserved
loop-i-preserved c =
    (omega arith, word_more _ c.loop-i.invariant.1 (kind_moved c.args.set c.loop-i.i _ c.from-k.ensures c.kind_at.ensures (omega arith)))
