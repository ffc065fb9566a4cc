-- `printing::put_text` meets its contract: a turn writes byte i, and the bytes after it are what is left.
-- Assumes nothing.
use borrow.Author.Rules.{rules}
use native.Mathlib.Omega.{arith}
use Rattle.printing.proofs.Filling.{filling_start, filling_length, byte_room, byte_next, bytes_end}
use Rattle.printing.proofs.put_text.Goals as goal

pub loop-b-init : goal.loop-b-init
loop-b-init c = (search rules, search rules, filling_start _ _ _ c.requires)

pub put_byte-a-requires : goal.put_byte-a-requires
put_byte-a-requires c = byte_room c.loop-b.b-index c.loop-b.invariant.2 (omega arith)

pub loop-b-preserved : goal.loop-b-preserved
loop-b-preserved c = (
  search rules,
  omega arith,
  byte_next c.loop-b.b-index c.loop-b.invariant.2 (omega arith)
      c.put_byte-a.ensures,
)

pub shape_of-out : goal.shape_of-out
shape_of-out c = filling_length c.loop-b.invariant.2

pub returns : goal.returns
returns c = bytes_end c.loop-b.b-index c.loop-b.invariant.2 (omega arith)
