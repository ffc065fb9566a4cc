-- `printing::put_line` meets its contract: the two numbers, a space between them and a line end are the line, and each finds the room that the ones before it leave.
-- Assumes nothing.
use native.Mathlib.Omega.{arith}
use lib.ListN.{length-append}
use Rattle.encode.proofs.Along.{wrote_more}
use Rattle.printing.proofs.Filling.{second_room}
use Rattle.printing.specs.Text.{line}
use Rattle.printing.proofs.put_line.Goals as goal

pub put_decimal-a-requires : goal.put_decimal-a-requires
unfolding line
put_decimal-a-requires c = omega (arith, simp length-append at c.requires)

pub put_number-b-requires : goal.put_number-b-requires
unfolding line
put_number-b-requires c = omega (arith, simp length-append at (second_room _ c.put_decimal-a.ensures c.requires))

pub put_text-requires : goal.put_text-requires
unfolding line
put_text-requires c = second_room _ c.put_number-b.ensures (second_room _ c.put_decimal-a.ensures c.requires)

pub returns : goal.returns
unfolding line
returns c =
    wrote_more c.put_decimal-a.ensures (wrote_more c.put_number-b.ensures c.put_text.ensures)
