-- What the program prints, by the bytes of its three files.
-- SPECIFICATION, The program: it reads the files sheet, question and register, and lends 8,192 work words, 256 answer words and 65,536 bytes.
-- Assumes nothing.
use Rattle.std.specs.Prelude.{◌≡◌, List, ℕ, ◌*◌, ◌≤◌, length, take, replicate}
use Rattle.theory.specs.Register.{Register, records}
use Rattle.theory.specs.Words.{row_words}
use Rattle.relation.specs.Pairs.{pair_at}
use Rattle.register.specs.Form.{register_in}
use Rattle.register.specs.LinksAhead.{Accepted}
use Rattle.fields.specs.declared.Size.{Size}
use Rattle.fields.specs.Call.{Returned}
use Rattle.job.specs.Call.{Results, job_call}
use Rattle.printing.specs.Text.{answer_text, text_of}

-- an area as the program lends it
unfoldable pub zeros : ℕ → List ℕ
zeros n = replicate n 0

-- an area of n copies of x
unfoldable pub copies : {A : Type 0} → A → ℕ → List A
copies x n = replicate n x

-- the job as the program calls it
unfoldable pub job_of : List ℕ → List ℕ → List ℕ → Returned Size Results
job_of sheet question register = job_call sheet question register (zeros 8192) (zeros 256) (zeros 65536)

-- its result, as text
unfoldable pub printed : List ℕ → List ℕ → List ℕ → List ℕ
printed sheet question register = text_of (job_of sheet question register).outcome (records (register_in register)) (job_of sheet question register).areas.answer

-- the first n bytes of the area are the text
pub record Prints (text : List ℕ) (n : ℕ) (area : List ℕ) : Type 0 where
  pub within : n ≤ length area
  pub bytes : take n area ≡ text

-- ---- what the code computes on the way; nothing that is printed rests on it
-- the text of an answer on a register
abbrev pub answer_of : ℕ → List ℕ → Register → List ℕ
answer_of members words r = answer_text members (pair_at words 0 (row_words (records r))) (records r)

-- an accepted job's register is small, and the area has its answer
pub record Printable (register words : List ℕ) : Type 0 where
  pub accepted : Accepted register
  pub few : records (register_in register) ≤ 128
  pub room : records (register_in register) * row_words (records (register_in register)) ≤ length words
