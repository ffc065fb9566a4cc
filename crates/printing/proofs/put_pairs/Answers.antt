-- `printing::put_pairs` meets its contract: row s of the words has the pairs from s, so a turn writes the lines of one record, and those of the records after it are left.
-- Assumes nothing.
use Prim.Native.Nat.{ℕ}
use native.Mathlib.Omega.{arith}
use mathlib.Core.Path.{ap}
use Rattle.relation.proofs.Making.{row_le}
use Rattle.printing.specs.Text.{row_lines}
use Rattle.printing.proofs.Filling.{filling_length}
use Rattle.printing.proofs.Lines.{lines_pieces, row_of}
use Rattle.printing.proofs.Pieces.{pieces_start, pieces_room, pieces_next, pieces_end}
use mathlib.Core.Bool.{Bool}
use Rattle.printing.proofs.put_pairs.Goals as goal

pub loop-s-init : goal.loop-s-init
loop-s-init c = pieces_start _ _ _ _ (lines_pieces _ _) c.requires.3

pub overflow_mul-s : goal.overflow_mul-s
overflow_mul-s c = omega (arith, row_le c.args.w c.loop-s-test.true, c.requires.2)

pub put_row-a-requires : goal.put_row-a-requires
put_row-a-requires c = (
  omega (arith, row_le c.args.w c.loop-s-test.true, c.requires.0, c.requires.2),
  pieces_room c.loop-s.invariant (ap (λ (f : ℕ → Bool). row_lines f c.loop-s.s c.args.n) (row_of _ _ _)) c.loop-s-test.true,
)

pub loop-s-preserved : goal.loop-s-preserved
loop-s-preserved c =
    pieces_next c.loop-s.invariant (ap (λ (f : ℕ → Bool). row_lines f c.loop-s.s c.args.n) (row_of _ _ _)) c.loop-s-test.true c.put_row-a.ensures

pub shape_of-out : goal.shape_of-out
shape_of-out c = filling_length c.loop-s.invariant.filling

pub returns : goal.returns
returns c = pieces_end c.loop-s.invariant c.loop-s-test.false
