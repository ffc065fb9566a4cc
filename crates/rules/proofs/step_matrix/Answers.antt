-- `rules::step_matrix` meets its contract: the words before a are rows of the step's matrix, and each turn makes one row more.
-- Assumes nothing.
use mathlib.Core.Path.{◌≡◌}
use Rattle.rules.proofs.Steps.{matrix_more}
use native.Mathlib.Omega.{arith}
use Rattle.rules.proofs.step_matrix.Goals as goal

pub loop-a-preserved : goal.loop-a-preserved
loop-a-preserved c = (omega arith, rw c.from.ensures (matrix_more c.loop-a.invariant.1 c.step_row.ensures c.loop-a-test.true c.requires.2))

pub returns : goal.returns
returns c = let e : c.loop-a.a ≡ c.args.sheet.now.kinds = omega arith in rw e at c.loop-a.invariant.1
