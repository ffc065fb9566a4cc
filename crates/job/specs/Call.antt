-- The whole job: what the call yields, and what it leaves in the areas that are lent to it.
-- SPECIFICATION, The calls: the order of refusals; Areas and words: the work words, the words and bytes past the results.
-- Assumes nothing.
use Rattle.std.specs.Prelude.{cond, List, ℕ, ltb, length}
use Rattle.std.proofs.Math.Option.{Option, none, some}
use Rattle.std.proofs.lemmas.List.Edits.{sets}
use Rattle.theory.specs.Result.{refused}
use Rattle.theory.specs.PathExpr.{Symbol}
use Rattle.theory.specs.Register.{Register, records}
use Rattle.theory.specs.Sheet.{Sheet, breach}
use Rattle.theory.specs.Merging.{Member}
use Rattle.theory.specs.Narrowing.{Narrowing, link_fault, refuse, parted}
use Rattle.theory.specs.Evaluation.{narrowed_answer}
use Rattle.theory.specs.Words.{answer_words}
use Rattle.fields.specs.declared.Source.TheVariants as source
use Rattle.fields.specs.declared.Size.{Size}
use Rattle.fields.specs.Call.{Outcome, accepts, refuses, about, and_then, file, Output, output, Task, task, Returned, call, simple_call}
use Rattle.sheet.specs.Form.{sheet_form}
use Rattle.question.specs.Form.{question_form, question_symbols}
use Rattle.register.specs.Form.{register_form}
use Rattle.narrowing.specs.Call.{file_of, narrow_need}
use Rattle.answer.specs.Calls.{answer_need, work_need}

-- the areas for the results
pub record Results : Type 0 where
  pub answer : List ℕ
  pub area : List ℕ

abbrev pub results : List ℕ → List ℕ → Results
results answer area = record { answer = answer; area = area }

-- ---- the order of 11, 16, 12 and 13
abbrev pub with_breach : Option ℕ → Narrowing → Narrowing
with_breach none o = o
with_breach (some i) o = refused 16 i

unfoldable pub narrow_checked : Sheet → Register → List Symbol → Narrowing
narrow_checked S r ss = refuse (link_fault S.link_names) 0 ss (with_breach (breach S r) (parted S ss))

-- ---- the results
-- a refused call leaves the answer as it came
abbrev pub if_accepted : Outcome Size → List ℕ → List ℕ → List ℕ
if_accepted (accepts z) words answer = words
if_accepted (refuses f n p) words answer = answer

-- 14 for the file; or the file, and the answer of its members
abbrev pub with_answer : Register → List Member → List ℕ → Output Size (List ℕ) → Output Size Results
with_answer r ms answer f =
    output f.outcome (results (if_accepted f.outcome (sets answer 0 (answer_words (records r) (narrowed_answer r ms))) answer) f.areas)

-- the refusals before that, or the result of the members
abbrev pub completed : Register → Narrowing → Results → Output Size Results
completed r o to = simple_call (and_then (about source.Work o) (λ ms. accepts (λ x. with_answer r ms x.answer (file_of ms x.area)))) to

-- 14 for the answer before them
unfoldable pub filled : Register → Narrowing → Results → Output Size Results
filled r o to = cond (ltb (length to.answer) (answer_need r)) (output (refuses source.Work 14 (answer_need r)) to) (completed r o to)

-- ---- the call
unfoldable pub larger : ℕ → ℕ → ℕ
larger a b = cond (ltb a b) b a

-- "8,192 words to narrow, 28 × N × W to answer, the larger for the whole job"
abbrev pub job_need : Register → ℕ
job_need r = larger narrow_need (work_need r)

unfoldable pub job_task : Register → Narrowing → Task Size Results
job_task r o = task (job_need r) (filled r o)

unfoldable pub job_call : List ℕ → List ℕ → List ℕ → List ℕ → List ℕ → List ℕ → Returned Size Results
job_call sheet question register work answer area =
    call (and_then (file source.Sheet sheet_form sheet) (λ S.
    and_then (file source.Question question_form question) (λ cs.
    and_then (file source.Register register_form register) (λ r.
    accepts (job_task r (narrow_checked S r (question_symbols cs))))))) work (results answer area)
