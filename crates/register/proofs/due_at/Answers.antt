-- `register::due_at` meets its contract: at each position the tag due, and whether the file ends there, are what the definition says.
-- Assumes nothing.
use Rattle.fields.specs.Table.{rows, rows_of}
use borrow.Author.Tests.{eq-eqb, ne_eqb}
use Rattle.register.proofs.due_at.Goals as goal

pub returns-in-Head : goal.returns-in-Head
unfolding rows_of rows
returns-in-Head c = simp (← c.rows_due.ensures, c.in-Head.is)

pub returns-in-Within : goal.returns-in-Within
unfolding rows_of rows
returns-in-Within c = simp (← c.rows_due-in-Within.ensures, eq-eqb _ _ c.if-q-eq0.true, c.in-Within.is)

pub returns-in-Within-2 : goal.returns-in-Within-2
unfolding rows_of rows
returns-in-Within-2 c = simp (← c.rows_due-in-Within-2.ensures, ne_eqb _ _ c.if-q-eq0.false, c.in-Within.is)
