-- `sheet::due` meets its contract: 11 at the head; then 12 or the end, and after 512 triples the end alone.
-- Assumes nothing.
use Rattle.fields.specs.Table.{rows, rows_of}
use Rattle.sheet.proofs.due.Goals as goal

pub returns-in-Head : goal.returns-in-Head
unfolding rows_of rows
returns-in-Head c = simp (← c.rows_due.ensures, c.in-Head.is)

pub returns-in-Within : goal.returns-in-Within
unfolding rows_of rows
returns-in-Within c = simp (← c.rows_due-in-Within.ensures, c.in-Within.is)
