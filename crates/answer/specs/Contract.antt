-- What the code's result and areas say.
-- Assumes nothing.
use Rattle.std.specs.Prelude as std
use Rattle.std.specs.Prelude.{◌≡◌, Bool, cond, List, ℕ, ◌*◌, ltb, length}
use Rattle.std.proofs.lemmas.List.Edits.{sets}
use Rattle.theory.specs.Words.{answer_words}
use Rattle.fields.specs.declared.Failure.{Failure}
use Rattle.fields.specs.declared.Source.TheVariants as source
use Rattle.fields.specs.Call.{accepts, refuses}
use Rattle.fields.specs.Contract.{outcome_said}
use Rattle.narrowed_question.specs.declared.Members.{Members}
use Rattle.narrowed_question.specs.Formed.{WellFormed}
use Rattle.narrowed_question.specs.ArrayMembers.{given}
use Rattle.rows.specs.Kept.{Kept}

-- with work words enough: 14, or the words of the pairs f of n records in the answer; of the work, only the words of 28 relations changed
pub record Fills (n w : ℕ) (f : ℕ → ℕ → Bool) (o : std.Result (Unit {0}) Failure) (work work' answer answer' : List ℕ) : Type 0 where
  pub outcome : outcome_said o ≡ cond (ltb (length answer) (n * w)) (refuses source.Work 14 (n * w)) (accepts tt)
  pub area : answer' ≡ cond (ltb (length answer) (n * w)) answer (sets answer 0 (answer_words n f))
  pub kept : Kept 0 (28 * (n * w)) work work'

-- the members are those of a file
abbrev pub Readable : Members → Type 0
Readable q = WellFormed (given q)
