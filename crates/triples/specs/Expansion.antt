-- What an expansion leaves: the codes and the join sets of a path, written from a place on.
-- Assumes nothing.
use Rattle.std.specs.Prelude.{◌≡◌, List, ℕ, ◌+◌, ◌≤◌, length}
use Rattle.std.proofs.lemmas.List.Edits.{sets}
use Rattle.theory.specs.PathExpr.{PathExpr, codes}
use Rattle.theory.specs.JoinSets.{sets_of}
use Rattle.triples.specs.Table.{node_at}
use Rattle.triples.specs.Paths.{Has}

-- xs and ys, with cs and ss written from `at` on, are xs' and ys', and `end` is the place after them
pub record PathWritten (at : ℕ) (cs ss xs ys xs' ys' : List ℕ) (end : ℕ) : Type 0 where
  pub codes_are : xs' ≡ sets xs at cs
  pub sets_are : ys' ≡ sets ys at ss
  pub as_many : length ss ≡ length cs
  pub ends : end ≡ at + length cs
  -- these two follow; they stand here for omega to find
  pub codes_length : length xs' ≡ length xs
  pub sets_length : length ys' ≡ length ys

-- the symbols of a path are written
abbrev pub Expanded : PathExpr → ℕ → List ℕ → List ℕ → List ℕ → List ℕ → ℕ → Type 0
Expanded p at = PathWritten at (codes p) (sets_of p)

-- node i is in use, and there is room for its path at a place
pub record Expandable (qs ws : List ℕ) (used i at : ℕ) (xs ys : List ℕ) : Type 0 where
  pub has : Has qs ws used i
  pub codes_room : at + (node_at ws i).size ≤ length xs
  pub sets_room : at + (node_at ws i).size ≤ length ys
