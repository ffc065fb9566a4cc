-- The members of theory as a file has them, and back.
-- Assumes nothing.
use Rattle.std.specs.Prelude.{List, map, ℕ}
use Rattle.std.proofs.Math.Option.{Option}
use Rattle.theory.specs.PathExpr.{PathExpr, postfix}
use Rattle.theory.specs.Postfix.{path_of}
use Rattle.theory.specs.Merging.{Member}
use Rattle.symbols.specs.Symbols.{number_symbol, symbol_numbered}
use Rattle.narrowed_question.specs.Form.{Flat, flat}
use Rattle.narrowed_question.specs.Writing.{encode}

abbrev pub flat_of : Member → Flat
flat_of m = flat m.from m.to (map number_symbol (postfix m.path))

-- the file of a narrowed question
unfoldable pub narrowed_file : List Member → List ℕ
narrowed_file ms = encode (map flat_of ms)

-- the path of a member in a file; one that was read has one
abbrev pub flat_path : Flat → Option PathExpr
flat_path m = path_of (map (λ x. symbol_numbered x.number x.set) m.symbols)
