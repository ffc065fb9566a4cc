-- `rules::reverse_row` meets its contract: a reverse step leads from kind a to those kinds from which the link leads to a.
use Rattle.theory.specs.PathExpr.{reverse}
use Rattle.rows.specs.Row.{Word}
use Rattle.rules.specs.StepTriples.{marked?}
use Prim.Native.Nat.{◌≤◌}
use Rattle.rules.proofs.reverse_row.Given as goal

abbrev pub invariant-loop-b : goal.invariant-loop-b
invariant-loop-b l = (l.b ≤ l.sheet.kinds) × Word (marked? l.sheet.table reverse l.link.0 l.a.0) l.b l.v
