-- `members_file::number_symbols` meets its contract: the codes before j have become numbers, and the bytes of the symbols from j on are still to be counted.
use Rattle.members_file.proofs.Symbols.{Going}
use Rattle.members_file.proofs.number_symbols.Given as goal

abbrev pub invariant-loop-j : goal.invariant-loop-j
invariant-loop-j l = Going l.initial.codes l.sets l.codes l.n l.j l.total
