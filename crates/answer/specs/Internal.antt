-- What the code needs on the way: nothing that is handed on rests on it.
-- Assumes nothing.
use Rattle.std.specs.Prelude.{Bool, ◌||◌, List, ℕ, ◌*◌}
use Rattle.theory.specs.Register.{Register}
use Rattle.rows.specs.Kept.{Kept}
use Rattle.relation.specs.Pairs.{pair_at, Made}

-- the member's pairs came to the answer's
pub record Adds (r : Register) (n w : ℕ) (f : ℕ → ℕ → Bool) (work work' answer answer' : List ℕ) : Type 0 where
  pub pairs : Made 0 n w (λ s t. pair_at answer 0 w s t || f s t) answer answer'
  pub kept : Kept 0 (28 * (n * w)) work work'
