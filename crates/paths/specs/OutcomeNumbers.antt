-- What a caller is told: how a file is judged; in C, the outcome of a call in three numbers, and the areas that were lent.
-- SPECIFICATION, The calls; Refusals: number and place.
-- Assumes nothing.
use Rattle.std.specs.Prelude as std
use Rattle.std.specs.Prelude.{◌≡◌, List, ℕ, Ok, Err}
use Rattle.theory.specs.Result.{Result}
use Rattle.fields.specs.declared.Refusal.{Refusal}
use Rattle.fields.specs.declared.Source.{Source}
use Rattle.fields.specs.declared.Size.{Size}
use Rattle.fields.specs.Call.{Outcome, accepts, refuses, about, and_then, Output, Returned}
use Rattle.fields.specs.Contract.{number_of, place_of, source_number}

-- how a file is judged: accepted, or refused by number and place
abbrev pub judged : {A : Type 0} → Source → Result A → Outcome (Unit {0})
judged s a = and_then (about s a) (λ _. accepts tt)

-- the same by what its reader gives
abbrev pub judged_by : {A : Type 0} → Source → std.Result A Refusal → Outcome (Unit {0})
judged_by s (Ok x) = accepts tt
judged_by s (Err r) = refuses s (number_of r) (place_of r)

-- ---- in C
-- the result of the C function, and what it leaves at its last two pointers
pub record Told : Type 0 where
  pub number : ℕ
  pub first : ℕ
  pub second : ℕ

abbrev pub tells : ℕ → ℕ → ℕ → Told
tells number first second = record { number = number; first = first; second = second }

-- what is told of acceptance: nothing more; or the number of a file's members, or of a question's symbols, and that of its bytes
abbrev pub no_more : Unit {0} → Told
no_more u = tells 0 0 0

abbrev pub of_size : Size → Told
of_size z = tells 0 z.count z.bytes

-- of a refusal: its number, its place, and the number of what it is about
abbrev pub told_by : {A : Type 0} → (A → Told) → Outcome A → Told
told_by f (accepts x) = f x
told_by f (refuses s n p) = tells n p (source_number s)

-- ---- the outcome is told, and 0 of acceptance alone
pub record Tells {A : Type 0} (f : A → Told) (o : Outcome A) (t : Told) : Type 0 where
  pub is : t ≡ told_by f o
  pub only : t.number ≡ 0 → (x : A) × (o ≡ accepts x)

-- and the areas are what is due
pub record TellsOutput {A R : Type 0} (f : A → Told) (due : Output A R) (t : Told) (areas : R) : Type 0 where
  pub outcome : Tells f due.outcome t
  pub areas_are : areas ≡ due.areas

pub record TellsCall {A R : Type 0} (f : A → Told) (due : Returned A R) (t : Told) (work : List ℕ) (areas : R) : Type 0 where
  pub outcome : Tells f due.outcome t
  pub work_is : work ≡ due.work
  pub areas_are : areas ≡ due.areas

-- where 0 is told the plain answer of the question is accepted, and its words are these
pub record TellsPlain (due : Returned (Unit {0}) (List ℕ)) (t : Told) (answer : List ℕ) : Type 0 where
  pub accepted : t.number ≡ 0 → due.outcome ≡ accepts tt
  pub answer_is : t.number ≡ 0 → answer ≡ due.areas
