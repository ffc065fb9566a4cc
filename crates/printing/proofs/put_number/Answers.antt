-- `printing::put_number` meets its contract: the digits start where the text ends, and what it leaves of the area has room for them.
-- Assumes nothing.
use native.Mathlib.Omega.{arith}
use lib.ListN.{length-append}
use Rattle.encode.proofs.Along.{wrote_more}
use Rattle.printing.proofs.Filling.{second_room}
use Rattle.printing.proofs.put_number.Goals as goal

pub put_text-a-requires : goal.put_text-a-requires
put_text-a-requires c = omega (arith, simp length-append at c.requires)

pub put_decimal-requires : goal.put_decimal-requires
put_decimal-requires c = second_room _ c.put_text-a.ensures c.requires

pub returns : goal.returns
returns c = wrote_more c.put_text-a.ensures c.put_decimal.ensures
