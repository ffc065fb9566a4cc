-- What is said of a ground and of symbols: the register, the words of a relation, the path.
-- Assumes nothing.
use Rattle.std.specs.Prelude.{ℕ, ◌*◌}
use Rattle.std.proofs.Math.Option.{Option}
use Rattle.theory.specs.PathExpr.{PathExpr}
use Rattle.theory.specs.Postfix.{path_of}
use Rattle.theory.specs.Register.{Register}
use Rattle.register.specs.Form.{register_in}
use Rattle.evaluation.specs.declared.ground.Ground.{Ground}
use Rattle.evaluation.specs.declared.ground.Symbols.{Symbols}
use Rattle.evaluation.specs.Grounded.{symbols_of}

abbrev pub register_on : Ground → Register
register_on g = register_in g.register.file.now

abbrev pub size : Ground → ℕ
size g = g.register.records * g.words

-- symbols that a `Path` holds make one
abbrev pub path_in : Symbols → Option PathExpr
path_in x = path_of (symbols_of x.numbers.now x.sets.now)
