-- `evaluation::Ground::size` meets its contract: 1,024 records in rows of 16 words are the most.
-- Assumes nothing.
use mathlib.Core.Path.{refl}
use Rattle.evaluation.proofs.Grounds.{grounded, few, small}
use native.Mathlib.Omega.{arith}
use Rattle.evaluation.proofs.ground.Ground.size.Goals as goal

pub overflow_mul-result : goal.overflow_mul-result
overflow_mul-result c = let g = (grounded c.args.self.now) in omega (arith, few g, small g)

pub returns : goal.returns
returns c = (refl, small (grounded c.args.self.now))
