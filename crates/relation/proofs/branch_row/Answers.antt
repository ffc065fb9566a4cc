-- `relation::branch_row` meets its contract: where the row has a bit the other row takes its place, and where it has none it stays empty.
-- Assumes nothing.
use Rattle.relation.proofs.Branches.{branch_yes, branch_no}
use mathlib.Core.Path.{sym, ◌∙◌}
use native.Mathlib.Omega.{arith}
use Rattle.relation.proofs.branch_row.Goals as goal

pub returns-then-any : goal.returns-then-any
returns-then-any c =
    let a = c.args in
    branch_yes _ a.d a.s a.n _ c.requires.4 (omega arith) (sym c.any.ensures ∙ c.if-any.true) c.merge_within.ensures

pub returns-else-any : goal.returns-else-any
returns-else-any c =
    let a = c.args in
    branch_no _ a.d a.s a.n _ c.requires.4 (omega arith) (sym c.any.ensures ∙ c.if-any.false)
