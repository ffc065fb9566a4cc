-- What the reader says of a register, in the terms of the definitions.
-- Assumes nothing.
use Rattle.std.specs.Prelude.{ℕ, length}
use Rattle.theory.specs.Register.{Register, records}
use Rattle.theory.specs.Result.{Result, got, onward}

-- the numbers of records and links
pub record RegisterSizes : Type 0 where
  pub records : ℕ
  pub links : ℕ

abbrev pub sizes : ℕ → ℕ → RegisterSizes
sizes n l = record { records = n; links = l }

abbrev pub sized : Result Register → Result RegisterSizes
sized a = onward (λ r. got (sizes (records r) (length r.links))) a
