-- What a rule leaves: the outcome of its list of triples, and a part of the table that is that list.
-- SPECIFICATION, Inference; Limits of narrowing: 13 before 12.
-- Assumes nothing.
use Rattle.std.specs.Prelude.{◌≡◌, cond, List, ℕ, ◌+◌, ◌<◌, ◌≤◌, leb, length, Result, Ok, Err}
use Rattle.theory.specs.Lists.{adjoin_all}
use Rattle.theory.specs.Inference.{Triple, triple?}
use Rattle.theory.specs.Narrowing.{short?, few?}
use Rattle.rows.specs.Kept.{Kept}
use Rattle.triples.specs.Paths.{Sound}
use Rattle.triples.specs.Parts.{part_of}
use Rattle.fields.specs.declared.Refusal.{Refusal}
use Rattle.fields.specs.declared.Refusal.TheVariants.{TooMany, TooLong}
use Rattle.rules.specs.declared.Excess.{Excess}
use Rattle.rules.specs.declared.Excess.TheVariants.{Many, Long}

-- the outcome of a part's triples: how many, or why it is not made
unfoldable pub outcome : List Triple → Result ℕ Excess
outcome ts = cond (short? ts) (cond (few? ts) (Ok (length ts)) (Err Many)) (Err Long)

-- that of a part of n triples, none too long
abbrev pub few_of : ℕ → Result ℕ Excess
few_of n = cond (leb n 128) (Ok n) (Err Many)

-- the number of an excess; the refusal that an outcome stands for, or 0
abbrev pub excess_number : Excess → ℕ
excess_number Many = 12
excess_number Long = 13

abbrev pub fault_of : Result ℕ Excess → ℕ
fault_of (Ok n) = 0
fault_of (Err e) = excess_number e

-- an excess as a refusal at symbol i
abbrev pub refusal_at : Excess → ℕ → Refusal
refusal_at Many i = TooMany i
refusal_at Long i = TooLong i

-- the rule's triples are `all`: the outcome, and the words after it
pub record Ruled (qs ws ws' : List ℕ) (s : ℕ) (all : List Triple) (r : Result ℕ Excess) : Type 0 where
  pub is : r ≡ outcome all
  pub kept : Kept s (s + 129) ws ws'
  pub sound : (n : ℕ) → r ≡ Ok n → Sound qs ws' (s + n)
  pub part : (n : ℕ) → r ≡ Ok n → part_of qs ws' s n ≡ all
  pub few : (n : ℕ) → r ≡ Ok n → n ≤ 128

-- the part that grows from s on has come to r triples: they are `all`, or there are too many; the words below u are kept
pub record Done (qs ws ws' : List ℕ) (u s r : ℕ) (all : List Triple) : Type 0 where
  pub kept : Kept u (s + 129) ws ws'
  pub sound : Sound qs ws' (s + r)
  pub few : r ≤ 128 → part_of qs ws' s r ≡ all
  pub many : 128 < r → 128 < length all
  pub bound : r ≤ 129

-- the part of `count` triples from s on, and `new` added to it
abbrev pub with_new : List ℕ → List ℕ → ℕ → ℕ → List Triple → List Triple
with_new qs ws s count new = adjoin_all triple? (part_of qs ws s count) new

-- it has come to r triples
abbrev pub Adds : List ℕ → List ℕ → List ℕ → ℕ → ℕ → ℕ → List Triple → Type 0
Adds qs ws ws' s count r new = Done qs ws ws' (s + count) s r (with_new qs ws s count new)
