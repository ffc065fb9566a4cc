-- A question's file and the file that shortening wrote of it, answered and narrowed.
-- SPECIFICATION, Shortening: the same pairs on every register; narrowing is judged by the rules over the shortened question.
-- Assumes nothing.
use Rattle.std.specs.Prelude.{◌≡◌, List, ℕ}
use Rattle.fields.specs.declared.Size.{Size}
use Rattle.answer.specs.Calls.{plain_call}
use Rattle.paths.specs.Agreement.{NarrowTook, file_written, Agrees}

pub record AnswersAlike (question short : List ℕ) : Type 0 where
  -- the plain answers are one: the same outcome, work words and answer words, whatever is lent as register and areas
  pub plain : (register work answer : List ℕ) → plain_call short register work answer ≡ plain_call question register work answer
  -- what narrowing makes of the shortened question agrees with the question itself: all of demand 3
  pub narrowed : (sheet work area : List ℕ) (z : Size) → NarrowTook sheet short work area z → Agrees sheet question (file_written sheet short work area z) z
