-- `sheet::head` meets its contract: a number outside of 1 to 64, of kinds or of links, is refusal 3; else the triples begin, with none read.
-- Assumes nothing.
use mathlib.Core.Path.{◌∙◌, sym}
use Rattle.fields.specs.Table.{rows, tag_length}
use borrow.Author.Rules.{rules}
use Rattle.sheet.specs.Form.{head_of}
use Rattle.sheet.proofs.head.Goals.{then-not-is_number-via-then-not-is_number, then-not-is_number-via-else-not-is_number+then-not-is_number-2}
use Rattle.sheet.proofs.head.Goals as goal

pub bounds-f-0 : goal.bounds-f-0
unfolding tag_length rows
bounds-f-0 c = search rules

pub bounds-f-1 : goal.bounds-f-1
unfolding tag_length rows
bounds-f-1 c = search rules

pub returns-then-not-is_number : goal.returns-then-not-is_number
unfolding head_of
returns-then-not-is_number c =
    elim c.then-not-is_number.branch [
      | then-not-is_number-via-then-not-is_number w ↦ simp (sym c.is_number.ensures ∙ w.if-not-is_number.true)
      | then-not-is_number-via-else-not-is_number+then-not-is_number-2 w ↦
          simp (sym c.is_number.ensures ∙ w.if-not-is_number.false, sym w.is_number-else-not-is_number.ensures ∙ w.if-not-is_number-2.true)
    ]

pub returns : goal.returns
unfolding head_of
returns c =
    simp (sym c.is_number.ensures ∙ c.if-not-is_number.false, sym c.is_number-else-not-is_number.ensures ∙ c.if-not-is_number-2.false)
