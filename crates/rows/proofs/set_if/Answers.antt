-- `rows::set_if` meets its contract: where b holds it is `set`, and otherwise the row that is due is the row as it was.
-- Assumes nothing.
use Rattle.rows.proofs.Rows.{put_yes}
use Rattle.rows.proofs.set_if.Goals as goal

pub returns-then-b : goal.returns-then-b
returns-then-b c = put_yes {b = c.args.b} _ c.set.ensures c.if-b.true
