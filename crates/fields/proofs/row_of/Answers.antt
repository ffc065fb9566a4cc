-- `fields::row_of` meets its contract: each of the eleven tags has its row in the table, and a tag that is none of them has the row that allows no file.
-- Assumes nothing.
use mathlib.Core.Path.{sym, ap}
use borrow.Author.Tests.{ne_eqb}
use Rattle.fields.specs.Table.{rows, row_of}
use Rattle.fields.proofs.row_of.Goals as goal

pub returns-in-17 : goal.returns-in-17
unfolding row_of rows
returns-in-17 c = ap row_of (sym c.in-17.is)

pub returns-in-18 : goal.returns-in-18
unfolding row_of rows
returns-in-18 c = ap row_of (sym c.in-18.is)

pub returns-in-33 : goal.returns-in-33
unfolding row_of rows
returns-in-33 c = ap row_of (sym c.in-33.is)

pub returns-in-49 : goal.returns-in-49
unfolding row_of rows
returns-in-49 c = ap row_of (sym c.in-49.is)

pub returns-in-50 : goal.returns-in-50
unfolding row_of rows
returns-in-50 c = ap row_of (sym c.in-50.is)

pub returns-in-51 : goal.returns-in-51
unfolding row_of rows
returns-in-51 c = ap row_of (sym c.in-51.is)

pub returns-in-65 : goal.returns-in-65
unfolding row_of rows
returns-in-65 c = ap row_of (sym c.in-65.is)

pub returns-in-66 : goal.returns-in-66
unfolding row_of rows
returns-in-66 c = ap row_of (sym c.in-66.is)

pub returns-in-67 : goal.returns-in-67
unfolding row_of rows
returns-in-67 c = ap row_of (sym c.in-67.is)

pub returns-in-68 : goal.returns-in-68
unfolding row_of rows
returns-in-68 c = ap row_of (sym c.in-68.is)

pub returns-in-69 : goal.returns-in-69
unfolding row_of rows
returns-in-69 c = ap row_of (sym c.in-69.is)

pub returns-in_default : goal.returns-in_default
unfolding row_of rows
returns-in_default c =
    let n = c.in_default.in_default-own.rest in
    sym (simp (
      ne_eqb 0x11 _ (λ e. n.0.0.0.0.0.0.0.0.0.0.1 (sym e)),
      ne_eqb 0x12 _ (λ e. n.0.0.0.0.0.0.0.0.0.1 (sym e)),
      ne_eqb 0x21 _ (λ e. n.0.0.0.0.0.0.0.0.1 (sym e)),
      ne_eqb 0x31 _ (λ e. n.0.0.0.0.0.0.0.1 (sym e)),
      ne_eqb 0x32 _ (λ e. n.0.0.0.0.0.0.1 (sym e)),
      ne_eqb 0x33 _ (λ e. n.0.0.0.0.0.1 (sym e)),
      ne_eqb 0x41 _ (λ e. n.0.0.0.0.1 (sym e)),
      ne_eqb 0x42 _ (λ e. n.0.0.0.1 (sym e)),
      ne_eqb 0x43 _ (λ e. n.0.0.1 (sym e)),
      ne_eqb 0x44 _ (λ e. n.0.1 (sym e)),
      ne_eqb 0x45 _ (λ e. n.1 (sym e)),
    ))
