-- What the writer makes of the members that it is given.
-- SPECIFICATION, The calls: what the writer is given is judged as the file that it would make, before 14.
-- Assumes nothing.
use Rattle.std.specs.Prelude as std
use Rattle.std.specs.Prelude.{◌≡◌, cond, List, ℕ, leb, length}
use Rattle.std.proofs.lemmas.List.Edits.{sets}
use Rattle.theory.specs.Result.{Result, got, refused}
use Rattle.fields.specs.Reading.{read}
use Rattle.narrowed_question.specs.declared.Members.{Members}
use Rattle.narrowed_question.specs.Form.{Flat, narrowed_form}
use Rattle.narrowed_question.specs.Writing.{encode}
use Rattle.narrowed_question.specs.ArrayMembers.{given}
use Rattle.fields.specs.declared.Refusal.{Refusal}
use Rattle.fields.specs.Contract.{read_said}

-- ---- the outcome: the file's refusal; else 14 with the bytes needed; else the number of bytes
abbrev pub written : Result (List Flat) → List ℕ → ℕ → Result ℕ
written (refused n p) bytes room = refused n p
written (got v) bytes room = cond (leb (length bytes) room) (got (length bytes)) (refused 14 (length bytes))

-- the area after it: untouched by a refusal, and past the file
abbrev pub area_after : Result (List Flat) → List ℕ → List ℕ → List ℕ
area_after (refused n p) bytes area = area
area_after (got v) bytes area = cond (leb (length bytes) (length area)) (sets area 0 bytes) area

-- the file that would be made of q, judged by its reader
unfoldable pub file_of : Members → List ℕ
file_of q = encode (given q)

unfoldable pub judgement : Members → Result (List Flat)
judgement q = read narrowed_form (file_of q)

-- ---- what the code says
pub record Writes (q : Members) (before : List ℕ) (r : std.Result ℕ Refusal) (after : List ℕ) : Type 0 where
  pub outcome : read_said (λ n. n) r ≡ written (judgement q) (file_of q) (length before)
  pub area : after ≡ area_after (judgement q) (file_of q) before
