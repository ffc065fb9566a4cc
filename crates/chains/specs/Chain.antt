-- Members that are chains: a step, and then any number of a step and a join through a set; where their relations lie. Of words on the way:
-- no caller needs to read this.
-- Assumes nothing.
use Rattle.std.specs.Prelude.{◌≡◌, List, ℕ, zero, suc, ◌+◌, ◌*◌, ◌/◌, ◌<◌, length, get_or, Option, Some, None}
use Rattle.theory.specs.PathExpr.{Direction, forward, Label, named, through, PathExpr, step, join, Symbol, s_step, s_join, s_op, s_closure}
use Rattle.symbols.specs.Symbols.{symbol_numbered}
use Rattle.theory.specs.TransitiveClosure.{look}
use Rattle.theory.specs.Register.{Register}
use Rattle.theory.specs.Evaluation.{evaluate}
use Rattle.rows.specs.Kept.{Kept}
use Rattle.rows.specs.Row.{row_bit}
use Rattle.evaluation.specs.Stack.{Stored}
use Rattle.evaluation.specs.Standing.{register_on}
use Rattle.kind_rows.specs.declared.KindTable.{KindTable}
use Rattle.kind_rows.specs.Kinds.{in_set}

-- the number is that of a step
abbrev pub IsStep : ℕ → Type 0
IsStep c = (d : Direction) × (l : Label) × (symbol_numbered c 0 ≡ s_step d l)

-- the step of a symbol (any, where it is none), and of a number
abbrev pub step_path : Symbol → PathExpr
step_path (s_step d l) = step d l
step_path (s_join v) = step forward (named 0)
step_path (s_op o) = step forward (named 0)
step_path s_closure = step forward (named 0)

unfoldable pub step_numbered : ℕ → PathExpr
step_numbered c = step_path (symbol_numbered c 0)

-- the first 2 m + 1 symbols are a chain
pub record Chained (numbers : List ℕ) (m : ℕ) : Type 0 where
  pub start : IsStep (get_or numbers 0 0)
  pub link : (j : ℕ) → j < m → IsStep (get_or numbers (2 * j + 1) 0)
  pub joint : (j : ℕ) → j < m → get_or numbers (2 * j + 2) 0 ≡ 255

-- the path of a chain of m links
abbrev pub chain_path : List ℕ → List ℕ → ℕ → PathExpr
chain_path numbers sets zero = step_numbered (get_or numbers 0 0)
chain_path numbers sets (suc m) = join (through (get_or sets (2 * m + 2) 0)) (chain_path numbers sets m) (step_numbered (get_or numbers (2 * m + 1) 0))

-- the relations past those of a stack are the steps whose numbers are held beside them
pub record Held (r : Register) (n w : ℕ) (held : List (Option ℕ)) (xs : List ℕ) : Type 0 where
  pub few : length held ≡ 4
  pub stored : (k c : ℕ) → k < 4 → get_or held k None ≡ Some c → IsStep c → Stored xs ((24 + k) * (n * w)) n w (look (evaluate r (step_numbered c)))

-- the same of a table's register
abbrev pub HeldOn : KindTable → List (Option ℕ) → List ℕ → Type 0
HeldOn t held xs = Held (register_on t.ground) t.ground.register.records t.ground.words held xs

-- what is held stays so
pub record StillHeld (held held' : List (Option ℕ)) : Type 0 where
  pub more : (k c : ℕ) → k < 4 → get_or held k None ≡ Some c → get_or held' k None ≡ Some c

-- the j-th relation of a route is the step of number c, which is held
abbrev pub Leg : ℕ → ℕ → List (Option ℕ) → List ℕ → ℕ → ℕ → Type 0
Leg n w held bases j c = (k : ℕ) × (k < 4) × (get_or held k None ≡ Some c) × (get_or bases j 0 ≡ (24 + k) * (n * w))

-- the j-th mask of a route has the records of the kinds of a set
abbrev pub Joint : ℕ → List ℕ → List ℕ → ℕ → ℕ → Type 0
Joint w kinds masks j set = (z : ℕ) → z / 64 < w → row_bit masks (16 * j) z ≡ in_set kinds w set z

-- link j has come to a route, and nothing else of it changed
pub record LinkLaid (n w : ℕ) (kinds : List ℕ) (number set j : ℕ) (held : List (Option ℕ)) (bases bases' masks masks' : List ℕ) : Type 0 where
  pub leg : Leg n w held bases' (j + 1) number
  pub joint : Joint w kinds masks' j set
  pub bases_kept : Kept (j + 1) (j + 1 + 1) bases bases'
  pub masks_kept : Kept (16 * j) (16 * j + w) masks masks'

-- the route of a chain of m links: its first step, and of each link the step and the set
pub record Laid (n w : ℕ) (kinds numbers sets : List ℕ) (m : ℕ) (held : List (Option ℕ)) (bases masks : List ℕ) : Type 0 where
  pub start : Leg n w held bases 0 (get_or numbers 0 0)
  pub leg : (j : ℕ) → j < m → Leg n w held bases (j + 1) (get_or numbers (2 * j + 1) 0)
  pub joint : (j : ℕ) → j < m → Joint w kinds masks j (get_or sets (2 * j + 2) 0)
