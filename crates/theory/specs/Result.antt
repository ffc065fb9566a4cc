-- What reading or narrowing gives: a value, or a refusal by number and place.
-- Assumes nothing.
use Rattle.std.specs.Prelude.{ℕ}

pub data Result (A : Type 0) : Type 0 where
  got : A → Result A
  refused : ℕ → ℕ → Result A

-- go on with what was got; a refusal stays
abbrev pub onward : {A B : Type 0} → (A → Result B) → Result A → Result B
onward f (got x) = f x
onward f (refused n p) = refused n p
