-- The transitive closure of a relation: as a type; and as a table over the numbers below n, by Warshall's rule.
-- SPECIFICATION, Chain: one or more of a path joined; Chains in inference: a walk is one or more triples end to end.
-- Assumes nothing.
use Rattle.std.specs.Prelude.{Bool, false, ◌&&◌, ◌||◌, List, [], ℕ, zero, suc, get_or}
use Rattle.theory.specs.Lists.{tabulate}

pub data TransitiveClosure (R : ℕ → ℕ → Type 0) : ℕ → ℕ → Type 0 where
  single : {a b : ℕ} → R a b → TransitiveClosure R a b
  extend : {a b c : ℕ} → TransitiveClosure R a b → R b c → TransitiveClosure R a c

-- a relation on the numbers below n, as n rows of n
abbrev pub Table : Type 0
Table = List (List Bool)

abbrev pub table : ℕ → (ℕ → ℕ → Bool) → Table
table n f = tabulate (λ a. tabulate (f a) 0 n) 0 n

abbrev pub look : Table → ℕ → ℕ → Bool
look t a b = get_or (get_or t a []) b false

-- walks whose numbers between are below k
abbrev pub warshall : ℕ → (ℕ → ℕ → Bool) → ℕ → Table
warshall n f zero = table n f
warshall n f (suc k) = let t = warshall n f k in table n (λ a b. look t a b || (look t a k && look t k b))

unfoldable pub closure? : ℕ → (ℕ → ℕ → Bool) → Table
closure? n f = warshall n f n
