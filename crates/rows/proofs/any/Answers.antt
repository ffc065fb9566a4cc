-- `rows::any` meets its contract: the union of the words is 0 only where each of them is, and a word that is not 0 has a bit.
-- Assumes nothing.
use Rattle.rows.proofs.Folded.{row_words, folded_more, folded_any}
use Rattle.rows.proofs.Words.{part_word}
use Prim.Native.Nat.{◌+◌, ◌<◌}
use borrow.Rule.Slice.PartMut.{mid_len}
use native.Mathlib.Omega.{arith}
use Rattle.rows.proofs.any.Goals as goal

pub loop-x-preserved : goal.loop-x-preserved
loop-x-preserved c =
    let a = c.args in
    let l = c.loop-x in
    let h : l.x-index < a.n = omega (arith, c.loop-x-test.true, mid_len a.r (a.r + a.n) a.words.now c.requires) in
    (omega arith, rw (part_word a.r a.n l.x-index a.words.now h) (folded_more (row_words a.words.now a.r) _ _ l.invariant.1 (omega (arith, c.type_inv.words (a.r + l.x-index)))))

pub returns : goal.returns
returns c =
    let a = c.args in
    folded_any _ _ a.n c.loop-x.invariant.1 (omega (arith, c.loop-x-test.false, mid_len a.r (a.r + a.n) a.words.now c.requires))
