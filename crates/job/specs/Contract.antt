-- What the code's result and areas say.
-- Assumes nothing.
use Rattle.std.specs.Prelude as std
use Rattle.std.specs.Prelude.{◌≡◌, List, ℕ}
use Rattle.fields.specs.declared.Failure.{Failure}
use Rattle.fields.specs.declared.Size.{Size}
use Rattle.fields.specs.Call.{accepts, Returned}
use Rattle.fields.specs.Contract.{written_said}

-- demand 3 in one line: where the job is accepted so is the plain answer of the question, and its words are these
pub record AnswersPlain (due : Returned (Unit {0}) (List ℕ)) (o : std.Result Size Failure) (ys : List ℕ) : Type 0 where
  pub accepted : (z : Size) → written_said o ≡ accepts z → due.outcome ≡ accepts tt
  pub answer : (z : Size) → written_said o ≡ accepts z → ys ≡ due.areas
