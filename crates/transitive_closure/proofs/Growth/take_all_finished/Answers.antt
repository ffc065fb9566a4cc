-- `Growth::take_all_finished` meets its contract: a row that was empty took in the rows of the word, and both others are changed by it.
-- Assumes nothing.
use mathlib.Core.Path.{refl}
use native.Mathlib.Omega.{arith}
use Rattle.bits.specs.Bit.{without}
use Rattle.transitive_closure.proofs.Rows.{took_word}
use Rattle.transitive_closure.proofs.Growth.take_all_finished.Goals as goal

pub returns : goal.returns
unfolding without
returns c =
    let a = c.args in
    (refl, took_word {m = 16} a.work.now a.p.b a.i a.v c.gather.ensures c.unite.ensures c.exclude.ensures (omega arith) (omega arith) (omega (arith, c.exclude.ensures.kept.len)))
