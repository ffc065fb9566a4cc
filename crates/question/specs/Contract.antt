-- What the code says of the reading of a question.
-- Assumes nothing.
use Rattle.std.specs.Prelude as std
use Rattle.std.specs.Prelude.{◌≡◌, List, ℕ, length, replicate, IfOk}
use Rattle.theory.specs.Result.{Result, got, refused, onward}
use Rattle.fields.specs.declared.Refusal.{Refusal}
use Rattle.fields.specs.Padded.{padded}
use Rattle.fields.specs.Contract.{read_said}
use Rattle.question.specs.declared.codes.Question.{Question}

-- the number of symbols
abbrev pub counted : Result (List ℕ) → Result ℕ
counted a = onward (λ cs. got (length cs)) a

-- the codes, and 0 from there on
abbrev pub codes_in : Result (List ℕ) → List ℕ
codes_in (got cs) = padded 32 cs
codes_in (refused n p) = replicate 32 0

-- the number of symbols or the refusal, and every element of the array; a file that is refused hands out none
pub record ReadsQuestion (a : Result (List ℕ)) (r : std.Result Question Refusal) : Type 0 where
  pub outcome : read_said (λ q. q.count) r ≡ counted a
  pub codes : IfOk r (λ q. q.codes ≡ codes_in a)
