-- Rows that repeat: two nodes that give the same triples with any part.
-- Assumes nothing.
use Rattle.std.specs.Prelude.{◌≡◌, Bool, true, List, [], ◌∷◌, ℕ, ◌<◌, ◌≤◌}
use Rattle.theory.specs.Inference.{Triple}
use Rattle.triples.specs.Paths.{triple_of}
use Rattle.rules.specs.declared.PairOperator.{PairOperator}
use Rattle.rules.specs.PairRules.{of_two}

-- r tells that nodes i and j differ in their to kinds at most
pub record Alike (qs ws : List ℕ) (i j : ℕ) (r : Bool) : Type 0 where
  pub same_from : r ≡ true → (triple_of qs ws i).from ≡ (triple_of qs ws j).from
  pub same_path : r ≡ true → (triple_of qs ws i).path ≡ (triple_of qs ws j).path

-- r tells that one of the nodes p to i and node i do
pub record StandsAlike (qs ws : List ℕ) (p i : ℕ) (r : Bool) : Type 0 where
  pub found : r ≡ true → (j : ℕ) × (p ≤ j) × (j < i) × Alike qs ws i j true

-- one of the nodes p to i gives what node i gives
pub record Twice (qs ws : List ℕ) (o : PairOperator) (p i : ℕ) : Type 0 where
  pub node : ℕ
  pub least : p ≤ node
  pub below : node < i
  pub same_rows : (ys : List Triple) → of_two o (triple_of qs ws i ∷ []) ys ≡ of_two o (triple_of qs ws node ∷ []) ys

-- r tells that there is one
pub record Repeats (qs ws : List ℕ) (o : PairOperator) (p i : ℕ) (r : Bool) : Type 0 where
  pub found : r ≡ true → Twice qs ws o p i
