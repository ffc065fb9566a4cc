-- What a narrowed question must be for its bytes to be read: what its reader demands, said of the value.
-- Assumes nothing.
use Rattle.std.specs.Prelude.{◌≡◌, true, List, [], ◌∷◌, ℕ, ◌≤◌, length}
use Rattle.theory.specs.KindSet.{IsSet}
use Rattle.theory.specs.PathExpr.{before?}
use Rattle.symbols.specs.Symbols.{Runs}
use Rattle.narrowed_question.specs.Form.{Flat, order_codes}

pub record Formed (m : Flat) : Type 0 where
  pub some : 1 ≤ length m.symbols
  pub few : length m.symbols ≤ 48
  pub from : IsSet m.from
  pub to : IsSet m.to
  pub runs : Runs (record { left = length m.symbols; depth = 0 }) m.symbols

-- each member is formed, and comes after the one before it, whose codes are prev
abbrev pub InOrder : List ℕ → List Flat → Type 0
InOrder prev [] = Unit {0}
InOrder prev (m ∷ ms) = Formed m × ((before? prev (order_codes m.symbols) ≡ true) × InOrder (order_codes m.symbols) ms)

pub record WellFormed (ms : List Flat) : Type 0 where
  pub few : length ms ≤ 128
  pub in_order : InOrder [] ms
