-- The records of each kind, as rows of a table. Of words on the way: no caller needs to read this.
-- Assumes nothing.
use Rattle.std.specs.Prelude.{◌≡◌, Bool, true, ◌&&◌, List, ℕ, ◌*◌, ◌/◌, ◌<◌, ◌≤◌, ltb, eqb, length}
use Rattle.bits.specs.Bit.{bit_of}
use Rattle.theory.specs.Lists.{some?, range}
use Rattle.theory.specs.Register.{Register, kind}
use Rattle.relation.specs.Pairs.{pair_at}

-- row k of the table has the records below m whose kind is k
pub record KindRows (r : Register) (m w : ℕ) (xs : List ℕ) : Type 0 where
  pub room : 64 * w ≤ length xs
  pub row : (k t : ℕ) → k < 64 → t / 64 < w → pair_at xs 0 w k t ≡ ltb t m && eqb (kind r t) k

-- record t is in the row of some kind of a set
abbrev pub in_set : List ℕ → ℕ → ℕ → ℕ → Bool
in_set xs w set t = some? (λ k. bit_of set k && pair_at xs 0 w k t) (range 64)

-- the table has no record of n or more
abbrev pub OfRecords : ℕ → ℕ → List ℕ → Type 0
OfRecords n w xs = (set t : ℕ) → t / 64 < w → in_set xs w set t ≡ true → t < n
