-- The graph of a part's kinds in 128 words.
-- SPECIFICATION, Chains in inference: a walk, a cyclic kind, and the walks that meet one.
-- Assumes nothing.
use Rattle.std.specs.Prelude.{◌≡◌, Bool, List, ℕ, ◌+◌, ◌/◌, ◌<◌, length}
use Rattle.theory.specs.TransitiveClosure.{look}
use Rattle.theory.specs.PathExpr.{PathExpr}
use Rattle.theory.specs.Inference.{Triple, triple, adjacent?, reach, meets_cyclic?, acyclic?}
use Rattle.rows.specs.Row.{row_bit}
use Rattle.relation.specs.Pairs.{pair_at}

-- bit b of word a: a triple leads from kind a to kind b
pub record Edges (ts : List Triple) (xs : List ℕ) : Type 0 where
  pub long : length xs ≡ 128
  pub pair : (a b : ℕ) → a < 64 → b / 64 < 1 → pair_at xs 0 1 a b ≡ adjacent? ts a b

-- bit b of word 64 + a: a walk leads from kind a to kind b; of word a: one that meets a cyclic kind does
pub record KindGraph (ts : List Triple) (xs : List ℕ) : Type 0 where
  pub long : length xs ≡ 128
  pub reached : (a b : ℕ) → a < 64 → b < 64 → row_bit xs (64 + a) b ≡ look (reach 64 ts) a b
  pub met : (a b : ℕ) → a < 64 → b < 64 → row_bit xs a b ≡ meets_cyclic? 64 (reach 64 ts) a b

-- r tells of any triples whose graph stands in xs whether one from a to b meets no cyclic kind
abbrev pub TellsAcyclic : List ℕ → ℕ → ℕ → Bool → Type 0
TellsAcyclic xs a b r = (ts : List Triple) → KindGraph ts xs → (p : PathExpr) → r ≡ acyclic? (reach 64 ts) (triple a p b)
