-- `relation::source_word` meets its contract: each turn adds the bit of a row that has one, and no bit of an empty one.
-- Assumes nothing.
use Rattle.relation.proofs.Clean.{clean_some}
use Rattle.rows.proofs.Masks.{word_none, word_yes, word_no}
use mathlib.Core.Path.{sym, ◌∙◌}
use Prim.Native.Nat.{◌+◌}
use native.Mathlib.Omega.{arith}
use Rattle.relation.proofs.source_word.Goals as goal
use Rattle.relation.proofs.source_word.Goals.{then-any, else-any}

pub loop-i-init : goal.loop-i-init
loop-i-init c = (omega arith, word_none _)

pub loop-i-preserved : goal.loop-i-preserved
loop-i-preserved c =
    let a = c.args in
    let l = c.loop-i in
    let e = sym (clean_some _ _ _ _ (c.requires.2 (a.g + l.i) (omega arith)) (omega arith)) ∙ sym c.any.ensures in (
      omega arith,
      elim c.if-any.branch [
        | then-any w ↦ rw (w.v-is, w.with_bit-v.ensures) (word_yes l.invariant.1 (e ∙ w.if-any.true))
        | else-any w ↦ rw w.v-is (word_no l.invariant.1 (e ∙ w.if-any.false))
      ],
    )
