-- `rows::merge_into` meets its contract: each turn finds a word as it was at the start, and merges the source's into it; merged words have the merged bits.
-- Assumes nothing.
use Rattle.rows.proofs.Rows.{row_merged}
use Rattle.rows.proofs.Words.{wrote_all}
use native.Mathlib.Omega.{arith}
use Rattle.rows.proofs.merge_into.Goals as goal

pub returns : goal.returns
returns g c = let a = c.args in row_merged a.from.now a.s g.M.Merge.word g.M.Merge.bit g.met.M.Merge.bits (wrote_all c.loop-j.invariant.1 (omega arith))
