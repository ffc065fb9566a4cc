-- Demand 3, whole, and no idle kind at a join: a sheet's file, a question's file, and the file that narrowing or the whole job wrote of them.
-- SPECIFICATION, Promises. narrow-call, plain-call, narrowed-call and job-call are what the contracts of the calls cite.
-- Assumes nothing.
use Rattle.std.specs.Prelude.{◌≡◌, List, ℕ, ◌<◌, T, length, get_or, take}
use Rattle.std.proofs.Math.Option.{some}
use Rattle.bits.specs.Bit.{bit_of}
use Rattle.theory.specs.PathExpr.{PathExpr}
use Rattle.theory.specs.Postfix.{path_of}
use Rattle.theory.specs.Register.{Register}
use Rattle.theory.specs.Sheet.{Sheet, conforms?}
use Rattle.theory.specs.Demand3.{Demand3}
use Rattle.theory.specs.NoIdle.{NoIdle}
use Rattle.theory.specs.Result.{got}
use Rattle.fields.specs.declared.Size.{Size}
use Rattle.fields.specs.Call.{accepts}
use Rattle.fields.specs.Reading.{read}
use Rattle.sheet.specs.Form.{sheet_form}
use Rattle.question.specs.Form.{question_form, question_symbols}
use Rattle.register.specs.Form.{register_form}
use Rattle.narrowed_question.specs.Form.{Flat, narrowed_form}
use Rattle.narrowing.specs.Call.{narrow_call}
use Rattle.answer.specs.Calls.{answer_need, members_of, plain_call, narrowed_call}
use Rattle.job.specs.Call.{job_call}

-- narrowing took the sheet and the question, and told the numbers of members and bytes of a file
abbrev pub NarrowTook : List ℕ → List ℕ → List ℕ → List ℕ → Size → Type 0
NarrowTook sheet question work area z = (narrow_call sheet question work area).outcome ≡ accepts z

-- the file that it wrote: the told number of bytes of the lent area
abbrev pub file_written : List ℕ → List ℕ → List ℕ → List ℕ → Size → List ℕ
file_written sheet question work area z = take z.bytes (narrow_call sheet question work area).areas

-- on a register's file, a plain answer of the question and a narrowed answer of the file, neither refused
pub record BothAnswer (question file register work answer work' answer' : List ℕ) (r : Register) : Type 0 where
  pub reads : read register_form register ≡ got r
  pub plain : (plain_call question register work answer).outcome ≡ accepts tt
  pub narrowed : (narrowed_call file register work' answer').outcome ≡ accepts tt

-- word k of each
abbrev pub plain_word : List ℕ → List ℕ → List ℕ → List ℕ → ℕ → ℕ
plain_word question register work answer k = get_or (plain_call question register work answer).areas k 0

abbrev pub narrowed_word : List ℕ → List ℕ → List ℕ → List ℕ → ℕ → ℕ
narrowed_word file register work answer k = get_or (narrowed_call file register work answer).areas k 0

-- what the three files hold, and what demand 3 and request j say of them
pub record Agrees (sheet question file : List ℕ) (z : Size) : Type 0 where
  pub S : Sheet
  pub sheet_reads : read sheet_form sheet ≡ got S
  -- the question as read
  pub codes : List ℕ
  pub question_reads : read question_form question ≡ got codes
  pub q : PathExpr
  pub path : path_of (question_symbols codes) ≡ some q
  -- the members in the file
  pub flats : List Flat
  pub file_reads : read narrowed_form file ≡ got flats
  pub members : z.count ≡ length flats
  pub bytes : z.bytes ≡ length file
  -- registers of any number of records and links
  pub meaning : Demand3 S q (members_of flats)
  -- "each kind in one of its join sets" matters on some register that obeys
  pub no_idle : NoIdle S (members_of flats)
  -- on a register's file: "their N times W words are equal if the register obeys"
  pub equal : {register work answer work' answer' : List ℕ} {r : Register} → BothAnswer question file register work answer work' answer' r → T (conforms? S r)
      → (k : ℕ) → k < answer_need r → narrowed_word file register work' answer' k ≡ plain_word question register work answer k
  -- "and otherwise each bit set in the narrowed answer is set in the plain one"
  pub subset : {register work answer work' answer' : List ℕ} {r : Register} → BothAnswer question file register work answer work' answer' r
      → (k j : ℕ) → k < answer_need r → T (bit_of (narrowed_word file register work' answer' k) j) → T (bit_of (plain_word question register work answer k) j)

-- ---- "The same holds of the file and the narrowed answer that the whole job gives."
-- the job took the three files, and told the numbers of members and bytes of a file
abbrev pub JobTook : List ℕ → List ℕ → List ℕ → List ℕ → List ℕ → List ℕ → Size → Type 0
JobTook sheet question register work answer area z = (job_call sheet question register work answer area).outcome ≡ accepts z

-- the file that it wrote, and word k of its answer
abbrev pub job_file : List ℕ → List ℕ → List ℕ → List ℕ → List ℕ → List ℕ → Size → List ℕ
job_file sheet question register work answer area z = take z.bytes (job_call sheet question register work answer area).areas.area

abbrev pub job_word : List ℕ → List ℕ → List ℕ → List ℕ → List ℕ → List ℕ → ℕ → ℕ
job_word sheet question register work answer area k = get_or (job_call sheet question register work answer area).areas.answer k 0

pub record JobAgrees (sheet question register work answer area : List ℕ) (z : Size) : Type 0 where
  pub file_agrees : Agrees sheet question (job_file sheet question register work answer area z) z
  -- the register obeys the sheet
  pub r : Register
  pub register_reads : read register_form register ≡ got r
  pub conforms : (S : Sheet) → read sheet_form sheet ≡ got S → T (conforms? S r)
  -- its answer's words are those of a narrowed answer of its file and of a plain answer of the question, in any areas in which these are not refused
  pub narrowed_same : (work' answer' : List ℕ) → (narrowed_call (job_file sheet question register work answer area z) register work' answer').outcome ≡ accepts tt
      → (k : ℕ) → k < answer_need r → job_word sheet question register work answer area k ≡ narrowed_word (job_file sheet question register work answer area z) register work' answer' k
  pub plain_same : (work' answer' : List ℕ) → (plain_call question register work' answer').outcome ≡ accepts tt
      → (k : ℕ) → k < answer_need r → job_word sheet question register work answer area k ≡ plain_word question register work' answer' k
