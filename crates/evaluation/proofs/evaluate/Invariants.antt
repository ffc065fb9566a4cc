-- `evaluation::evaluate` meets its contract: the rest of the symbols makes the path out of the relations on the stack, of which 48 symbols never need more than 24.
use lib.ListN.{length}
use Rattle.evaluation.proofs.SymbolLoop.{Going}
use Rattle.register.specs.Form.{register_in}
use Rattle.evaluation.proofs.evaluate.Given as goal

abbrev pub invariant-loop-number : goal.invariant-loop-number
invariant-loop-number l =
    let g = l.ground in
    let ns = l.path.symbols.numbers.now in
    Going (register_in g.register.file.now) g.register.records g.words ns l.path.symbols.sets.now (length ns) l.initial.work l.work l.b (length l.yielded)
