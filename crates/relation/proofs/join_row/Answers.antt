-- `relation::join_row` meets its contract: an empty row takes nothing in.
-- Assumes nothing.
use native.Mathlib.Omega.{arith}
use mathlib.Core.Path.{sym, ◌∙◌}
use Rattle.relation.proofs.Joining.{row_none}
use Rattle.relation.proofs.join_row.Goals as goal

pub returns-else-any : goal.returns-else-any
returns-else-any c = let a = c.args in row_none a.work.now a.mask.now a.d a.q a.n a.w (sym c.any.ensures ∙ c.if-any.false) (omega arith)
