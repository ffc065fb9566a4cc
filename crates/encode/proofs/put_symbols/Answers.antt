-- `encode::put_symbols` meets its contract: where the whole has room, the next symbol has.
-- Assumes nothing.
use Rattle.encode.proofs.Symbols.{symbols_room}
use native.Mathlib.Omega.{arith}
use Rattle.encode.proofs.put_symbols.Goals as goal

pub put_symbol-a-requires : goal.put_symbol-a-requires
put_symbol-a-requires c = symbols_room c.loop-i.invariant (omega arith)
