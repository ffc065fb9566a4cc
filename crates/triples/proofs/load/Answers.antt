-- `triples::load` meets its contract: each field is a quotient of the word or a remainder of one, and so below its bound.
-- Assumes nothing.
use native.Mathlib.Omega.{arith}
use mathlib.Core.Path.{refl}
use Rattle.triples.specs.Table.{unpacked}
use Rattle.triples.proofs.load.Goals as goal

pub returns : goal.returns
unfolding unpacked
returns c = record { is = refl; made_small = omega arith; from_small = omega arith; to_small = omega arith; size_small = omega arith; left_small = omega arith; right_small = omega arith }
