-- The largest path of a walk to each kind, round by round.
-- Assumes nothing.
use Rattle.std.specs.Prelude.{◌≡◌, cond, List, [], ◌∷◌, ℕ, zero, suc, ◌+◌, ◌≤◌, max, eqb, length, get_or}
use Rattle.theory.specs.PathExpr.{size}
use Rattle.theory.specs.Inference.{Triple, walks}
use Rattle.triples.specs.declared.Span.{Span}
use Rattle.triples.specs.Paths.{Sound}

-- the nodes xs of a sound table
pub record Part (qs ws : List ℕ) (xs : Span) : Type 0 where
  pub sound : Sound qs ws xs.end
  pub in_table : xs.end ≤ length ws
  pub ordered : xs.start ≤ xs.end

-- all walks over the triples ts whose sizes are asked for
abbrev pub all_walks : List Triple → List Triple
all_walks ts = walks 24 ts ts

-- ---- weights
abbrev pub largest : (Triple → ℕ) → List Triple → ℕ
largest w [] = 0
largest w (t ∷ ts) = max (w t) (largest w ts)

-- the weight of a triple that ends in kind k; 0 of another
abbrev pub to_kind : ℕ → (Triple → ℕ) → Triple → ℕ
to_kind k w t = cond (eqb t.to k) (w t) 0

-- the size of a walk of size m joined with one more; 0 stands for no walk
abbrev pub extended : ℕ → ℕ → ℕ
extended zero s = 0
extended (suc m) s = suc (suc m + s)

abbrev pub size_of : Triple → ℕ
size_of t = size t.path

-- the largest walk to t's first kind, joined with t
abbrev pub weight : List ℕ → Triple → ℕ
weight best t = extended (get_or best t.from 0) (size t.path)

-- ---- a number for each kind
-- that of k is raised to v, where it is less
pub record Raised (k v : ℕ) (xs ys : List ℕ) : Type 0 where
  pub same_length : length ys ≡ length xs
  pub at : (j : ℕ) → get_or ys j 0 ≡ max (get_or xs j 0) (cond (eqb k j) v 0)

-- that of each kind is raised to the largest weight of a triple that ends there
pub record Raising (w : Triple → ℕ) (ts : List Triple) (xs ys : List ℕ) : Type 0 where
  pub same_length : length ys ≡ length xs
  pub at : (k : ℕ) → get_or ys k 0 ≡ max (get_or xs k 0) (largest (to_kind k w) ts)

-- none is over m
abbrev pub AtMost : ℕ → List ℕ → Type 0
AtMost m xs = (k : ℕ) → get_or xs k 0 ≤ m

-- none is over 48
abbrev pub Small : List ℕ → Type 0
Small xs = AtMost 48 xs
