-- A law that docs/ name and that the code needs no more: a relation of no rows.
-- Assumes nothing.
use mathlib.Core.Bool.{Bool}
use mathlib.Core.List.{List}
use Prim.Native.Nat.{ℕ}
use native.Mathlib.Omega.{arith}
use Rattle.rows.proofs.Words.{kept_refl}
use Rattle.relation.specs.Pairs.{Made}

pub made_none : (b w : ℕ) (f : ℕ → ℕ → Bool) (xs : List ℕ) → Made b 0 w f xs xs
made_none b w f xs = record { kept = kept_refl _ _ xs; pair = λ s t h l. absurd (omega arith) }
