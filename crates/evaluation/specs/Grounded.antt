-- What an evaluation stands on: a register's file, and symbols that make a path.
-- Assumes nothing.
use Rattle.std.specs.Prelude.{◌≡◌, Bool, true, false, List, map, ℕ, length}
use Rattle.std.proofs.Math.Option.{Option, none, some}
use Rattle.theory.specs.PathExpr.{Direction, forward, reverse, PathExpr, Symbol}
use Rattle.theory.specs.Postfix.{path_of}
use Rattle.theory.specs.Register.{Edge, edge, same_edge?, records}
use Rattle.theory.specs.Words.{row_words}
use Rattle.symbols.specs.Symbols.{symbol_numbered, symbols_given}
use Rattle.register.specs.Form.{register_in}
use Rattle.register.specs.LinksAhead.{Accepted}

-- the file is a register's, of n records, in rows of w words
pub record Grounded (s : List ℕ) (n w : ℕ) : Type 0 where
  pub accepted : Accepted s
  pub count : records (register_in s) ≡ n
  pub wide : row_words n ≡ w

-- the edge e is a link named l, and the step along it leads from s to t
abbrev pub leads? : Direction → ℕ → Edge → ℕ → ℕ → Bool
leads? forward l e s t = same_edge? (edge s l t) e
leads? reverse l e s t = same_edge? (edge t l s) e

-- the k symbols from the i-th on, of the numbers and sets in two arrays
abbrev pub symbols_in : List ℕ → List ℕ → ℕ → ℕ → List Symbol
symbols_in numbers masks k i = map (λ x. symbol_numbered x.number x.set) (symbols_given numbers masks k i)

-- they make a path
abbrev pub MakePath : List ℕ → List ℕ → ℕ → ℕ → Type 0
MakePath numbers masks k i = (p : PathExpr) × (path_of (symbols_in numbers masks k i) ≡ some p)

-- there is a path
abbrev pub path? : Option PathExpr → Bool
path? none = false
path? (some p) = true

-- all symbols of two arrays
abbrev pub symbols_of : List ℕ → List ℕ → List Symbol
symbols_of numbers masks = symbols_in numbers masks (length numbers) 0
