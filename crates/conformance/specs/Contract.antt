-- What the code says of the search for a breach.
-- Assumes nothing.
use Rattle.std.specs.Prelude as std
use Rattle.std.specs.Prelude.{Bool, List, ℕ, ltb}
use Rattle.std.proofs.Math.Option.{Option, none, some}
use Rattle.theory.specs.Lists.{first_failing}
use Rattle.theory.specs.Register.{Edge, Register, records, kind}
use Rattle.theory.specs.Sheet.{or_else}
use Rattle.sheet.specs.Table.{tabled?}

-- where a test fails first, if anywhere
abbrev pub failing_said : std.Option ℕ → Option ℕ
failing_said (std.Some i) = some i
failing_said std.None = none

-- a kind is one of K
abbrev pub below? : ℕ → ℕ → Bool
below? K k = ltb k K

abbrev pub link_tabled? : List ℕ → Register → Edge → Bool
link_tabled? t r e = tabled? t (kind r e.from) e.label (kind r e.to)

-- the first record whose kind is not one of K
unfoldable pub first_unknown : ℕ → Register → Option ℕ
first_unknown K r = first_failing (below? K) 0 r.kinds

-- the first link whose bit is not set, counted from the number of records
unfoldable pub first_forbidden : List ℕ → Register → Option ℕ
first_forbidden t r = first_failing (link_tabled? t r) (records r) r.links

abbrev pub first_breach : ℕ → List ℕ → Register → Option ℕ
first_breach K t r = or_else (first_unknown K r) (first_forbidden t r)
