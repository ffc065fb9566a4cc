-- The plain and the narrowed answer: what each call yields, and what it leaves in the areas that are lent to it.
-- SPECIFICATION, Areas and words: the words of an answer, the work words; The calls: the order of refusals.
-- Assumes nothing.
use Rattle.std.specs.Prelude.{Bool, false, cond, List, [], ◌∷◌, ℕ, ◌*◌, ltb, length}
use Rattle.std.proofs.Math.Option.{Option, none, some}
use Rattle.std.proofs.lemmas.List.Edits.{sets}
use Rattle.theory.specs.PathExpr.{PathExpr}
use Rattle.theory.specs.Postfix.{path_of}
use Rattle.theory.specs.Register.{Register, records}
use Rattle.theory.specs.Merging.{Member, member}
use Rattle.theory.specs.Evaluation.{plain_answer, narrowed_answer}
use Rattle.theory.specs.Words.{row_words, answer_words}
use Rattle.fields.specs.declared.Source.TheVariants as source
use Rattle.fields.specs.Call.{accepts, refuses, and_then, file, Output, output, Task, task, Returned, call}
use Rattle.question.specs.Form.{question_form, question_symbols}
use Rattle.register.specs.Form.{register_form}
use Rattle.narrowed_question.specs.Form.{Flat, narrowed_form}
use Rattle.narrowed_question.specs.Members.{flat_path}

-- ---- the areas
-- N × W words of an answer; 28 × N × W words of work
abbrev pub answer_need : Register → ℕ
answer_need r = records r * row_words (records r)

abbrev pub work_need : Register → ℕ
work_need r = 28 * answer_need r

-- 14, or the words of the pairs f
unfoldable pub answered : Register → (ℕ → ℕ → Bool) → List ℕ → Output (Unit {0}) (List ℕ)
answered r f answer =
    cond (ltb (length answer) (answer_need r)) (output (refuses source.Work 14 (answer_need r)) answer)
    (output (accepts tt) (sets answer 0 (answer_words (records r) f)))

unfoldable pub answer_task : Register → (ℕ → ℕ → Bool) → Task (Unit {0}) (List ℕ)
answer_task r f = task (work_need r) (answered r f)

-- ---- what was asked
-- the pairs of a question's path; one that was read has one
abbrev pub asked : Register → Option PathExpr → ℕ → ℕ → Bool
asked r none s t = false
asked r (some p) s t = plain_answer r p s t

-- the members of a narrowed question with their paths; each that was read has one
abbrev pub with_path : Flat → Option PathExpr → List Member → List Member
with_path m none ms = ms
with_path m (some p) ms = member m.from p m.to ∷ ms

abbrev pub members_of : List Flat → List Member
members_of [] = []
members_of (m ∷ ms) = with_path m (flat_path m) (members_of ms)

-- ---- the calls
unfoldable pub plain_call : List ℕ → List ℕ → List ℕ → List ℕ → Returned (Unit {0}) (List ℕ)
plain_call question register work answer =
    call (and_then (file source.Question question_form question) (λ cs.
    and_then (file source.Register register_form register) (λ r.
    accepts (answer_task r (asked r (path_of (question_symbols cs))))))) work answer

unfoldable pub narrowed_call : List ℕ → List ℕ → List ℕ → List ℕ → Returned (Unit {0}) (List ℕ)
narrowed_call narrowed register work answer =
    call (and_then (file source.Narrowed narrowed_form narrowed) (λ ms.
    and_then (file source.Register register_form register) (λ r.
    accepts (answer_task r (narrowed_answer r (members_of ms)))))) work answer
