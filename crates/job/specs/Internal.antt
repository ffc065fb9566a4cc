-- What the code needs on the way: nothing that is handed on rests on it.
-- Assumes nothing.
use Rattle.std.specs.Prelude as std
use Rattle.std.specs.Prelude.{◌≡◌, List, ℕ, ◌*◌, ◌≤◌, T, length, Ok}
use Rattle.theory.specs.Sheet.{Sheet, sheet?}
use Rattle.theory.specs.Narrowing.{Narrowing}
use Rattle.theory.specs.Evaluation.{narrowed_answer}
use Rattle.theory.specs.Result.{got}
use Rattle.fields.specs.declared.Refusal.{Refusal}
use Rattle.fields.specs.declared.Size.{Size}
use Rattle.fields.specs.Reading.{read}
use Rattle.fields.specs.Call.{Gives, Returns, performed}
use Rattle.sheet.specs.declared.Sheet as declared·Sheet
use Rattle.question.specs.Form.{question_symbols}
use Rattle.narrowed_question.specs.Form.{Flat, narrowed_form}
use Rattle.narrowed_question.specs.Formed.{WellFormed}
use Rattle.evaluation.specs.declared.ground.Ground.{Ground}
use Rattle.evaluation.specs.Standing.{register_on, size}
use Rattle.rows.specs.Kept.{Kept}
use Rattle.narrowing.specs.Call.{narrow_need}
use Rattle.narrowing.specs.Contract.{Handed, Narrowable, work_said}
use Rattle.answer.specs.Calls.{members_of}
use Rattle.answer.specs.Contract as answer·contract
use Rattle.job.specs.Call.{results, narrow_checked, larger, completed, filled, job_task}

-- a narrowed question's file
pub record HasMembers (file : List ℕ) : Type 0 where
  pub members : List Flat
  pub reads : read narrowed_form file ≡ got members
  pub formed : WellFormed members

-- the answer of its members
pub record AnswersFile (file : List ℕ) (g : Ground) (work work' answer answer' : List ℕ) : Type 0 where
  pub fills : (ms : List Flat) → read narrowed_form file ≡ got ms → WellFormed ms
      → answer·contract.Fills g.register.records g.words (narrowed_answer (register_on g) (members_of ms)) (Ok tt) work work' answer answer'

-- the code's sheet is one that was read
pub record TellsSheet (x : declared·Sheet.Sheet) (S : Sheet) : Type 0 where
  pub handed : Handed x.table x.kinds x.links S
  pub valid : T (sheet? S)

-- the codes are a question's, and the code's sheet is one
pub record Asked (qs : List ℕ) (x : declared·Sheet.Sheet) : Type 0 where
  pub ready : Narrowable qs x.table x.kinds
  pub sheet : Sheet
  pub tells : TellsSheet x sheet

-- work words for both halves of the job
pub record Roomy (g : Ground) (work : List ℕ) : Type 0 where
  pub narrowing : narrow_need ≤ length work
  pub answering : 28 * size g ≤ length work

-- what the narrowing comes to, on a register
abbrev pub due : Sheet → List ℕ → Ground → Narrowing
due S qs g = narrow_checked S (register_on g) (question_symbols qs)

-- past 14 for the answer: 11, 16, 12 or 13, 14 for the file, or the file and its answer; of the work words only those up to the need changed
pub record Completes (qs : List ℕ) (x : declared·Sheet.Sheet) (g : Ground) (work work' answer answer' area area' : List ℕ) (r : std.Result Size Refusal) : Type 0 where
  pub kept : Kept 0 (larger narrow_need (28 * size g)) work work'
  pub gives : (S : Sheet) → TellsSheet x S → Gives (completed (register_on g) (due S qs g) (results answer area)) (work_said r) (results answer' area')

-- the same with 14 for the answer before it
pub record JobFills (qs : List ℕ) (x : declared·Sheet.Sheet) (g : Ground) (work work' answer answer' area area' : List ℕ) (r : std.Result Size Refusal) : Type 0 where
  pub kept : Kept 0 (larger narrow_need (28 * size g)) work work'
  pub gives : (S : Sheet) → TellsSheet x S → Gives (filled (register_on g) (due S qs g) (results answer area)) (work_said r) (results answer' area')

-- with 15 before that, and the work words zero after it
pub record Settles (qs : List ℕ) (x : declared·Sheet.Sheet) (g : Ground) (work work' answer answer' area area' : List ℕ) (r : std.Result Size Refusal) : Type 0 where
  pub returns : (S : Sheet) → TellsSheet x S
      → Returns (performed (job_task (register_on g) (due S qs g)) work (results answer area)) (work_said r) work' (results answer' area')
