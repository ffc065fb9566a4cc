-- `rows::merge_within` meets its contract: each turn merges a word that the loop does not change into one that it has not come to.
-- Assumes nothing.
use Rattle.rows.proofs.Rows.{row_merged}
use Rattle.rows.proofs.Words.{wrote_all}
use native.Mathlib.Omega.{arith}
use Rattle.rows.proofs.merge_within.Goals as goal

pub returns : goal.returns
returns g c = let a = c.args in row_merged a.words.now a.s g.M.Merge.word g.M.Merge.bit g.met.M.Merge.bits (wrote_all c.loop-j.invariant.1 (omega arith))
