-- `triples::copy` meets its contract: the symbols before j are written; then the sets are, as a whole.
-- Assumes nothing.
use mathlib.Core.Path.{◌≡◌, refl}
use Rattle.triples.proofs.Writing.{copied_more, copied}
use native.Mathlib.Omega.{arith}
use Rattle.triples.proofs.copy.Goals as goal

pub loop-j-init : goal.loop-j-init
loop-j-init c = (omega arith, refl)

pub loop-j-preserved : goal.loop-j-preserved
loop-j-preserved c = (omega arith, copied_more _ _ _ c.args.question.now c.args.codes.now (omega arith) c.loop-j.invariant.1)

pub returns : goal.returns
returns c =
    let a = c.args in
    let e : c.loop-j.j ≡ a.n = omega arith in
    copied a.question.now a.codes.now a.vias.now a.s a.n a.at (omega arith) (omega arith) (rw e at c.loop-j.invariant.1) (c.fill.ensures.after (λ y e. e))
