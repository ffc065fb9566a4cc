-- `rows::unite_masked` meets its contract: each turn finds a word as it was at the start, and adds the bits that the source's word and the mask's have in common.
-- Assumes nothing.
use Rattle.rows.proofs.Rows.{row_masked}
use Rattle.rows.proofs.Words.{wrote_all}
use native.Mathlib.Omega.{arith}
use Rattle.rows.proofs.unite_masked.Goals as goal

pub returns : goal.returns
returns c = row_masked _ _ _ (wrote_all c.loop-j.invariant.1 (omega arith))
