-- `fields::fit_of` meets its contract: no tag has two rows, so whether the row of the tag is due, its length and `closing` tell the number.
-- Assumes nothing.
use mathlib.Core.Path.{sym, ◌∙◌}
use borrow.Author.Tests.{eq-eqb, ne_eqb}
use Rattle.fields.proofs.Rows.{by_row}
use Rattle.fields.proofs.fit_of.Goals as goal

pub returns-then-row-len : goal.returns-then-row-len
returns-then-row-len c =
    sym (by_row c.args.due c.args.tag c.args.len _ c.row_of-row.ensures ∙ simp (sym c.row_due.ensures ∙ c.if-row_due.true, eq-eqb _ _ c.if-row-len.true))

pub returns-then-row_due : goal.returns-then-row_due
returns-then-row_due c =
    sym (by_row c.args.due c.args.tag c.args.len _ c.row_of-row.ensures ∙ simp (sym c.row_due.ensures ∙ c.if-row_due.true, ne_eqb _ _ c.if-row-len.false))

pub returns-then-due : goal.returns-then-due
returns-then-due c = sym (by_row c.args.due c.args.tag c.args.len _ c.row_of-row.ensures ∙ simp (sym c.row_due.ensures ∙ c.if-row_due.false, c.if-due.true))

pub returns : goal.returns
returns c = sym (by_row c.args.due c.args.tag c.args.len _ c.row_of-row.ensures ∙ simp (sym c.row_due.ensures ∙ c.if-row_due.false, c.if-due.false))
