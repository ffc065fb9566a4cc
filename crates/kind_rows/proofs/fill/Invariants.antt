-- `kind_rows::fill` meets its contract: a turn puts one record into the row of its kind.
use mathlib.Core.Path.{◌≡◌}
use lib.ListN.{length}
use Rattle.register.specs.Form.{register_in}
use Rattle.kind_rows.specs.Kinds.{KindRows}
use Prim.Native.Nat.{◌≤◌}
use Rattle.kind_rows.proofs.fill.Given as goal

abbrev pub invariant-loop-t : goal.invariant-loop-t
invariant-loop-t l = (l.t ≤ l.ground.register.records) × KindRows (register_in l.ground.register.file.now) l.t l.ground.words l.kinds × (length l.kinds ≡ length l.initial.kinds)
