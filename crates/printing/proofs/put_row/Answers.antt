-- `printing::put_row` meets its contract: a bit that is set has its line and any other an empty piece, and the pieces in order are the lines of the bits that are set.
-- Assumes nothing.
use native.Mathlib.Omega.{arith}
use Rattle.printing.specs.Text.{line}
use mathlib.Core.Path.{ap, sym, ◌∙◌}
use mathlib.Core.Bool.{Bool}
use Rattle.theory.specs.Lists.{guard}
use Rattle.printing.proofs.Pieces.{pieces_start, pieces_room, pieces_next, pieces_end}
use Rattle.printing.proofs.Lines.{row_pieces}
use Rattle.printing.proofs.Filling.{filling_length, wrote_none}
use Rattle.printing.proofs.put_row.Goals.{then-has, else-has}
use Rattle.printing.proofs.put_row.Goals as goal

pub loop-t-init : goal.loop-t-init
loop-t-init c = pieces_start _ _ _ _ (row_pieces _ _ _) c.requires.1

pub has-requires : goal.has-requires
has-requires c = omega (arith, c.requires.0)

pub put_line-a-requires : goal.put_line-a-requires
put_line-a-requires c =
    pieces_room c.loop-t.invariant (ap (λ (b : Bool). guard b (line c.args.s c.loop-t.t)) (sym c.if-has.true ∙ c.has.ensures)) c.loop-t-test.true

pub loop-t-preserved : goal.loop-t-preserved
loop-t-preserved c =
    let piece = λ (b : Bool). guard b (line c.args.s c.loop-t.t) in
    elim c.if-has.branch [
      | then-has w ↦ rw (w.out-is, w.a-is) (pieces_next c.loop-t.invariant (ap piece (sym w.if-has.true ∙ c.has.ensures)) c.loop-t-test.true w.put_line-a.ensures)
      | else-has w ↦ rw (w.out-is, w.a-is) (pieces_next c.loop-t.invariant (ap piece (sym w.if-has.false ∙ c.has.ensures)) c.loop-t-test.true (wrote_none _ _))
    ]

pub shape_of-out : goal.shape_of-out
shape_of-out c = filling_length c.loop-t.invariant.filling

pub returns : goal.returns
returns c = pieces_end c.loop-t.invariant c.loop-t-test.false
