-- `kind_rows::records_of` meets its contract: a row that was cleared took in the row of each kind of the set.
-- Assumes nothing.
use native.Mathlib.Omega.{arith}
use Rattle.kind_rows.proofs.Tables.{bit_kind, set_taken}
use Rattle.kind_rows.proofs.records_of.Goals as goal

pub take_word-requires : goal.take_word-requires
take_word-requires c =
    let p = c.requires in
    (omega (arith, p.0, c.clear.ensures.kept.len), omega (arith, p.1), λ i e. bit_kind c.args.set i (omega (arith, c.ranges.set.fits)) e)

pub returns : goal.returns
returns c =
    set_taken c.args.kinds.now c.args.set c.clear.ensures c.take_word.ensures
