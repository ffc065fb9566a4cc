-- `encode::put_symbols` meets its contract: a turn writes one symbol's field, and the fields of the symbols left are always what is still to be written.
use Rattle.encode.proofs.Symbols.{Symbols}
use Rattle.encode.proofs.put_symbols.Given as goal

abbrev pub invariant-loop-i : goal.invariant-loop-i
invariant-loop-i l = Symbols l.initial.out l.at l.numbers l.sets l.k l.n l.out l.a l.i
