-- `printing::put_pairs` meets its contract: row s of the words has the pairs from s, so a turn writes the lines of one record, and those of the records after it are left.
use Rattle.relation.specs.Pairs.{pair_at}
use Rattle.printing.specs.Text.{row_lines, lines}
use Rattle.printing.proofs.Pieces.{Pieces}
use Rattle.printing.proofs.put_pairs.Given as goal

abbrev pub invariant-loop-s : goal.invariant-loop-s
invariant-loop-s l = Pieces (λ s. row_lines (pair_at l.words 0 l.w s) s l.n) l.n l.initial.out l.at (lines (pair_at l.words 0 l.w) l.n) l.out l.a l.s
