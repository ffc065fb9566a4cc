-- Members by sorting: single members in the order of their codes, then neighbours of one shape merged.
-- proofs/Sorting.antt: so made they are the members of theory: specs/Merging.
-- Assumes nothing.
use Rattle.std.specs.Prelude.{Bool, cond, List, [], ◌∷◌}
use Rattle.theory.specs.PathExpr.{codes, before?}
use Rattle.theory.specs.Merging.{Member, same_shape?, merged}

module _ {A : Type 0} (first? : A → A → Bool) where
  -- x behind those that come first, and before those equal to it
  abbrev pub place : A → List A → List A
  place x [] = x ∷ []
  place x (y ∷ ys) = cond (first? y x) (y ∷ place x ys) (x ∷ y ∷ ys)

  abbrev pub sorted : List A → List A
  sorted [] = []
  sorted (x ∷ xs) = place x (sorted xs)

-- the order of members, and those that become one
abbrev pub ahead? : Member → Member → Bool
ahead? m n = before? (codes m.path) (codes n.path)

abbrev pub alike? : Member → Member → Bool
alike? m n = same_shape? m.path n.path

-- m in front, or merged with the first
abbrev pub put : Member → List Member → List Member
put m [] = m ∷ []
put m (n ∷ ns) = cond (alike? m n) (merged m n ∷ ns) (m ∷ n ∷ ns)

abbrev pub grouped : List Member → List Member
grouped [] = []
grouped (m ∷ ms) = put m (grouped ms)

-- the same from left to right: m takes in each of a run
abbrev pub gathered : Member → List Member → Member
gathered m [] = m
gathered m (n ∷ ns) = gathered (merged m n) ns
