-- The triples of a step by a sheet's table of permitted kinds.
-- SPECIFICATION, Inference: a forward step has each permitted triple of its link, a reverse one swaps its kinds.
-- Assumes nothing.
use Rattle.std.specs.Prelude.{◌≡◌, Bool, List, ℕ, ◌<◌, ◌≤◌, T, length}
use Rattle.bits.specs.Bit.{bit_of}
use Rattle.theory.specs.PathExpr.{Direction, forward, reverse, named, step}
use Rattle.theory.specs.Inference.{Triple, between}
use Rattle.theory.specs.Sheet.{Sheet, sheet?, permits?}
use Rattle.sheet.specs.Table.{tabled?}
use Rattle.rows.specs.Row.{row_bit}
use Rattle.rules.specs.Requirements.{Room}

-- the table has the bit of a step from kind a to kind b
unfoldable pub marked? : List ℕ → Direction → ℕ → ℕ → ℕ → Bool
marked? t forward l a b = tabled? t a l b
marked? t reverse l a b = tabled? t b l a

-- the triples of a step, of K kinds
unfoldable pub of_marks : List ℕ → ℕ → Direction → ℕ → List Triple
of_marks t K d l = between K (step d (named l)) (marked? t d l)

-- the table is the sheet's
pub record Tabled (t : List ℕ) (S : Sheet) : Type 0 where
  pub bits : (a l b : ℕ) → a < 64 → tabled? t a l b ≡ permits? S a l b
  pub valid : T (sheet? S)

-- v has the bits of a step from kind a to the kinds below K
pub record StepRow (t : List ℕ) (d : Direction) (l a K v : ℕ) : Type 0 where
  pub bit : (b : ℕ) → b < K → bit_of v b ≡ marked? t d l a b

-- the first n words of xs are those of a step's matrix of K kinds: bit b of word a
pub record StepMatrix (t : List ℕ) (d : Direction) (l K n : ℕ) (xs : List ℕ) : Type 0 where
  pub long : length xs ≡ 64
  pub bit : (a b : ℕ) → a < n → b < K → row_bit xs a b ≡ marked? t d l a b

-- what the rule of a step asks
pub record Stepping (qs ws : List ℕ) (K l s : ℕ) : Type 0 where
  pub link : l < 64
  pub room : Room qs ws s 0
  pub kinds : K ≤ 64
