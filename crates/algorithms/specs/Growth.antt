-- The walks of a closure as a list that grows while it is read. proofs/Growth.antt: it is the list of theory: specs/Inference.
-- Assumes nothing.
use Rattle.std.specs.Prelude.{cond, List, [], ◌∷◌, ℕ, zero, suc, ltb, length, get_or}
use Rattle.theory.specs.Lists.{adjoin_all}
use Rattle.theory.specs.PathExpr.{forward, named, step}
use Rattle.theory.specs.Inference.{Triple, triple, triple?, of_join}

-- what a list has past its end
abbrev pub no_triple : Triple
no_triple = triple 0 (step forward (named 0)) 0

-- the i-th is joined with each of fs, and what is new is put at the end
abbrev pub grown : List Triple → List Triple → ℕ → List Triple
grown fs ts i = adjoin_all triple? ts (of_join (get_or ts i no_triple ∷ []) fs)

-- so from the i-th on, n times or until none is left
unfoldable pub grow : ℕ → List Triple → List Triple → ℕ → List Triple
grow zero fs ts i = ts
grow (suc n) fs ts i = cond (ltb i (length ts)) (grow n fs (grown fs ts i) (suc i)) ts
