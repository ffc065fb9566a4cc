-- `rules::step_matrix` meets its contract: the words before a are rows of the step's matrix, and each turn makes one row more.
use Rattle.symbols.specs.Contract.{direction_said}
use Rattle.rules.specs.StepTriples.{StepMatrix}
use Prim.Native.Nat.{◌≤◌}
use Rattle.rules.proofs.step_matrix.Given as goal

abbrev pub invariant-loop-a : goal.invariant-loop-a
invariant-loop-a l = (l.a ≤ l.sheet.kinds) × StepMatrix l.sheet.table (direction_said l.direction) l.link.0 l.sheet.kinds l.a l.matrix
