-- `relation::take_row` meets its contract: a turn takes in the rows that one word names.
-- Assumes nothing.
use Prim.Native.Nat.{◌+◌}
use native.Mathlib.Omega.{arith}
use Rattle.relation.proofs.Joining.{word_clean, words_none, words_more}
use Rattle.relation.proofs.take_row.Goals as goal

pub loop-i-init : goal.loop-i-init
loop-i-init c = (omega arith, words_none _ _ _ _ _ _ _ _)

pub take_some-requires : goal.take_some-requires
take_some-requires c =
    let a = c.args in
    let l = c.loop-i in
    let e = l.invariant.1.kept.len in
    (omega arith, omega arith, word_clean a.from.now a.mask.now a.d a.m a.n a.w l.i c.requires.5 (omega arith) (omega (arith, c.type_inv.from (a.d + l.i))))

pub loop-i-preserved : goal.loop-i-preserved
loop-i-preserved c =
    let a = c.args in
    let l = c.loop-i in
    (omega arith, words_more a.from.now a.d a.work.now a.q a.w a.mask.now a.m l.i l.invariant.1 c.take_some.ensures)
