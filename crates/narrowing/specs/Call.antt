-- Narrowing, and the size of its file: what the calls yield, and what they leave in the areas that are lent to them.
-- SPECIFICATION, The calls: the order of refusals; Areas and words: the work words, the bytes past a narrowed file.
-- The bytes needed: the exact length, or the refusal that narrowing would give, without any area for the file.
-- Assumes nothing.
use Rattle.std.specs.Prelude.{List, ℕ, length}
use Rattle.theory.specs.Merging.{Member}
use Rattle.theory.specs.Narrowing.{Narrowing, narrow_symbols}
use Rattle.fields.specs.declared.Source.TheVariants as source
use Rattle.fields.specs.Call.{Outcome, accepts, about, and_then, file, Output, output, Task, task, Returned, returned, call, simple_call, size, file_in}
use Rattle.fields.specs.declared.Size.{Size}
use Rattle.sheet.specs.Form.{sheet_form}
use Rattle.question.specs.Form.{question_form, question_symbols}
use Rattle.narrowed_question.specs.Members.{narrowed_file}

-- ---- before a byte of the file is written
-- "Work need: 8,192 words to narrow"
unfoldable pub narrow_need : ℕ
narrow_need = 8192

-- the members, or 11, 12 or 13
unfoldable pub members_task : Narrowing → Task (List Member) (Unit {0})
members_task o = task narrow_need (output (about source.Work o))

unfoldable pub members_call : List ℕ → List ℕ → List ℕ → Returned (List Member) (Unit {0})
members_call sheet question work =
    call (and_then (file source.Sheet sheet_form sheet) (λ S.
    and_then (file source.Question question_form question) (λ cs.
    accepts (members_task (narrow_symbols S (question_symbols cs)))))) work tt

-- ---- the size of the file
-- how large the file of the members is
abbrev pub file_size : List Member → Size
file_size ms = size (length ms) (length (narrowed_file ms))

abbrev pub sized : Outcome (List Member) → Outcome Size
sized o = and_then o (λ ms. accepts (file_size ms))

unfoldable pub size_call : List ℕ → List ℕ → List ℕ → Returned Size (Unit {0})
size_call sheet question work =
    let m = members_call sheet question work in
    returned (sized m.outcome) m.work tt

-- ---- the file
-- 14, or the file of the members
unfoldable pub file_of : List Member → List ℕ → Output Size (List ℕ)
file_of ms area = file_in (length ms) (narrowed_file ms) area

-- a refusal leaves the area as it came
abbrev pub in_area : Outcome (List Member) → List ℕ → Output Size (List ℕ)
in_area o area = simple_call (and_then o (λ ms. accepts (file_of ms))) area

unfoldable pub narrow_call : List ℕ → List ℕ → List ℕ → List ℕ → Returned Size (List ℕ)
narrow_call sheet question work area =
    let m = members_call sheet question work in
    let o = in_area m.outcome area in
    returned o.outcome m.work o.areas
