-- `rules::reverse_row` meets its contract: a reverse step leads from kind a to those kinds from which the link leads to a.
-- Assumes nothing.
use Rattle.rows.proofs.Masks.{word_none}
use Rattle.rules.proofs.Steps.{row_yes, row_no, row_over}
use native.Mathlib.Omega.{arith}
use Rattle.rules.proofs.reverse_row.Goals as goal
use Rattle.rules.proofs.reverse_row.Goals.{then-permits, else-permits}

pub loop-b-init : goal.loop-b-init
loop-b-init c = (omega arith, word_none _)

pub loop-b-preserved : goal.loop-b-preserved
loop-b-preserved c =
    let a = c.args.a.0 in
    let l = c.args.link.0 in
    let b = c.loop-b.b in
    let p = c.permits.ensures in (
      omega arith,
      elim c.if-permits.branch [
        | then-permits w ↦ rw (w.v-is, w.with_bit-v.ensures, w.from.ensures) (row_yes _ l a b p c.loop-b.invariant.1 w.if-permits.true)
        | else-permits w ↦ rw w.v-is
            (row_no _ l a b p c.loop-b.invariant.1 w.if-permits.false)
      ],
    )

pub returns : goal.returns
returns c = row_over c.loop-b.invariant.1 c.loop-b-test.false
