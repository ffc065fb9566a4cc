-- What is promised of a question's file and of the file that shortening wrote of it. shorten-call is what the contract of the call cites.
-- SPECIFICATION, Shortening: the same pairs on every register, never longer, the same wherever one begins, and left as it is by a second pass.
-- Assumes nothing.
use Rattle.std.specs.Prelude.{◌≡◌, ◌↔◌, List, ℕ, ◌≤◌, length, take}
use Rattle.std.proofs.Math.Option.{some}
use Rattle.std.proofs.lemmas.List.Edits.{sets}
use Rattle.theory.specs.PathExpr.{PathExpr}
use Rattle.theory.specs.Postfix.{path_of}
use Rattle.theory.specs.Register.{Register, Holds}
use Rattle.theory.specs.Simplification.{Reduces, Irreducible}
use Rattle.theory.specs.Result.{got}
use Rattle.fields.specs.Call.{accepts, output}
use Rattle.fields.specs.declared.Size.{Size}
use Rattle.fields.specs.Reading.{read}
use Rattle.fields.specs.Writing.{Bytes}
use Rattle.question.specs.Form.{question_form, question_symbols}
use Rattle.shortening.specs.Call.{shorten_call}

-- shortening took the question, and told the numbers of symbols and bytes of a file
abbrev pub ShortenTook : List ℕ → List ℕ → Size → Type 0
ShortenTook question area z = (shorten_call question area).outcome ≡ accepts z

-- the file that it wrote: the told number of bytes of the lent area
abbrev pub short_file : List ℕ → List ℕ → Size → List ℕ
short_file question area z = take z.bytes (shorten_call question area).areas

pub record Shortens (question file : List ℕ) (z : Size) : Type 0 where
  -- the question as read
  pub codes : List ℕ
  pub question_reads : read question_form question ≡ got codes
  pub p : PathExpr
  pub path : path_of (question_symbols codes) ≡ some p
  -- the file as read: what is done with it, narrowing too, is done with its path
  pub short_codes : List ℕ
  pub file_reads : read question_form file ≡ got short_codes
  pub q : PathExpr
  pub short_path : path_of (question_symbols short_codes) ≡ some q
  -- the numbers told are the file's
  pub symbols : z.count ≡ length short_codes
  pub bytes : z.bytes ≡ length file
  -- the simplifications are "applied until none fits"
  pub reached : Reduces p q
  pub none_fits : Irreducible q
  -- it "does not depend on where one begins"
  pub one_result : (x : PathExpr) → Reduces p x → Irreducible x → x ≡ q
  -- it "has the same pairs on every register"
  pub same_pairs : (r : Register) (s t : ℕ) → Holds r q s t ↔ Holds r p s t
  -- it "is never longer", in symbols and in bytes
  pub never_longer : length short_codes ≤ length codes
  pub no_more_bytes : Bytes question → length file ≤ length question
  -- "a second pass leaves it be": the same is told, and the same bytes are written
  pub twice : (area : List ℕ) → length file ≤ length area → shorten_call file area ≡ output (accepts z) (sets area 0 file)
  -- a question that none fits is written as it came
  pub unchanged : Bytes question → Irreducible p → file ≡ question
