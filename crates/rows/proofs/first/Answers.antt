-- `rows::first` meets its contract: the words that were passed have no bit in common, and of the first that has one its lowest is told.
-- Assumes nothing.
use Rattle.rows.proofs.Leasts.{passed_more, least_here}
use native.Mathlib.Omega.{arith}
use Rattle.rows.proofs.first.Goals as goal

pub returns-then-v-ne0 : goal.returns-then-v-ne0
returns-then-v-ne0 c =
    let a = c.args in
    let l = c.loop-i in
    (omega (arith, c.lowest.ensures.small), least_here a.words.now a.r a.a.now a.b.now a.n l.i c.lowest.result l.invariant.1 c.lowest.ensures (omega arith))

pub loop-i-preserved : goal.loop-i-preserved
loop-i-preserved c =
    let a = c.args in
    let l = c.loop-i in
    (omega arith, passed_more a.words.now a.r a.a.now a.b.now l.i l.invariant.1 c.if-v-ne0.false)
