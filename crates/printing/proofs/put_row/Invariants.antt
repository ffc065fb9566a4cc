-- `printing::put_row` meets its contract: a bit that is set has its line and any other an empty piece, and the pieces in order are the lines of the bits that are set.
use Rattle.rows.specs.Row.{row_bit}
use Rattle.printing.specs.Text.{row_lines, line}
use Rattle.theory.specs.Lists.{guard}
use Rattle.printing.proofs.Pieces.{Pieces}
use Rattle.printing.proofs.put_row.Given as goal

abbrev pub invariant-loop-t : goal.invariant-loop-t
invariant-loop-t l = Pieces (λ t. guard (row_bit l.words l.r t) (line l.s t)) l.n l.initial.out l.at (row_lines (row_bit l.words l.r) l.s l.n) l.out l.a l.t
