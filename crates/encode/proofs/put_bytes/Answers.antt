-- `encode::put_bytes` meets its contract: the part of the area from the place on is now the bytes.
-- Assumes nothing.
use mathlib.Core.Path.{refl}
use Rattle.encode.proofs.Bytes.{copied}
use native.Mathlib.Omega.{arith}
use Rattle.encode.proofs.put_bytes.Goals as goal

pub returns : goal.returns
returns c = record { area = rw c.copy_from_slice.ensures.after (copied c.args.out.now c.args.bytes.now c.args.at _ (omega arith) c.requires); next_is = refl }
