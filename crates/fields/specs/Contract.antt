-- What the code's enums say, in the numbers of SPECIFICATION, Refusals: of each case its number and its values.
-- Assumes nothing.
use Rattle.std.specs.Prelude as std
use Rattle.std.specs.Prelude.{◌≡◌, ℕ, ◌+◌, List, length, Option, Some, None, Ok, Err, IsOkAnd}
use Rattle.std.specs.Borrow.{Bor}
use Rattle.fields.specs.declared.Refusal.{Refusal}
use Rattle.fields.specs.declared.Refusal.TheVariants.{Truncated, Unexpected, OutOfRange, NotAscending, WrongEnd, Operands, UnnamedLink, TooMany, TooLong, AreaShort, WorkShort, Breach}
use Rattle.fields.specs.declared.Fit.{Fit}
use Rattle.fields.specs.declared.Fit.TheVariants as fit
use Rattle.fields.specs.declared.Source.{Source}
use Rattle.fields.specs.declared.Source.TheVariants.{Sheet, Question, Narrowed, Register, Work}
use Rattle.fields.specs.declared.Failure.{Failure}
use Rattle.fields.specs.declared.Found as declared·Found
use Rattle.theory.specs.Result.{Result, got, refused}
use Rattle.fields.specs.Call.{Outcome, accepts, refuses, Size}
use Rattle.fields.specs.Raw.{body_in}
use Rattle.fields.specs.declared.Due.{Due}
use Rattle.fields.specs.Reading.{Field, ends, wrong, body, field_at}

abbrev pub number_of : Refusal → ℕ
number_of (Truncated p) = 1
number_of (Unexpected p) = 2
number_of (OutOfRange p) = 3
number_of (NotAscending p) = 4
number_of (WrongEnd p) = 5
number_of (Operands p) = 6
number_of (UnnamedLink p) = 11
number_of (TooMany p) = 12
number_of (TooLong p) = 13
number_of (AreaShort p) = 14
number_of (WorkShort p) = 15
number_of (Breach p) = 16

abbrev pub place_of : Refusal → ℕ
place_of (Truncated p) = p
place_of (Unexpected p) = p
place_of (OutOfRange p) = p
place_of (NotAscending p) = p
place_of (WrongEnd p) = p
place_of (Operands p) = p
place_of (UnnamedLink p) = p
place_of (TooMany p) = p
place_of (TooLong p) = p
place_of (AreaShort p) = p
place_of (WorkShort p) = p
place_of (Breach p) = p

abbrev pub source_number : Source → ℕ
source_number Sheet = 1
source_number Question = 2
source_number Narrowed = 3
source_number Register = 4
source_number Work = 5

-- 0 where it fits
abbrev pub fit_said : Fit → ℕ
fit_said fit.Fits = 0
fit_said fit.Unexpected = 2
fit_said fit.WrongEnd = 5

abbrev pub refusal_said : {A : Type 0} → Refusal → Result A
refusal_said r = refused (number_of r) (place_of r)

-- a refusal, with what it is about
abbrev pub failure : Source → Refusal → Failure
failure s r = record { source = s; refusal = r }

-- a reader's result, with what it is about
abbrev pub about_of : {A : Type 0} → Source → std.Result A Refusal → std.Result A Failure
about_of s (Ok x) = Ok x
about_of s (Err r) = Err (failure s r)

-- the same of a reference to it
abbrev pub AboutRef : {A : Type 0} → Source → std.Result A Refusal → std.Result (Bor A) Failure → Type 0
AboutRef s (Ok x) b = IsOkAnd b (λ y. y.now ≡ x)
AboutRef s (Err r) b = b ≡ Err (failure s r)

-- what a reader's result says, and what a call's does: of a value what f says of it
abbrev pub read_said : {A B : Type 0} → (A → B) → std.Result A Refusal → Result B
read_said f (Ok x) = got (f x)
read_said f (Err r) = refusal_said r

abbrev pub call_said : {A B : Type 0} → (A → B) → std.Result A Failure → Outcome B
call_said f (Ok x) = accepts (f x)
call_said f (Err e) = refuses e.source (number_of e.refusal) (place_of e.refusal)

-- of a call that returns nothing else, and of one that writes a file or tells its size
abbrev pub outcome_said : std.Result (Unit {0}) Failure → Outcome (Unit {0})
outcome_said a = call_said (λ u. u) a

abbrev pub written_said : std.Result Size Failure → Outcome Size
written_said a = call_said (λ z. z) a

-- what lies at a place where something is due
abbrev pub field_said : std.Result (Option declared·Found.Found) Refusal → Field
field_said (Ok None) = ends
field_said (Ok (Some f)) = body f.tag (length f.body.now)
field_said (Err r) = wrong (number_of r) (place_of r)

-- no field that is due is there, nor the end where it may be
abbrev pub Refused : Due → List ℕ → ℕ → Type 0
Refused d s at = (field_at d s at ≡ ends → ⊥) × ((t n : ℕ) → field_at d s at ≡ body t n → ⊥)

-- the field that was found: its place, its body, which is that part of the file, and the place after it
pub record FoundAt (s : List ℕ) (at : ℕ) (f : declared·Found.Found) : Type 0 where
  pub here : f.at ≡ at
  pub body : f.body.now ≡ body_in s at
  pub next : f.next ≡ at + 3 + length f.body.now
