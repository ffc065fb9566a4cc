-- Shortening a question: what the call yields, and what it leaves in the area that is lent to it.
-- SPECIFICATION, Shortening; The calls: an area too short for the result is 14, after the file.
-- Assumes nothing.
use Rattle.std.specs.Prelude.{List, [], ℕ, length}
use Rattle.std.proofs.Math.Option.{Option, none, some}
use Rattle.theory.specs.PathExpr.{PathExpr, codes}
use Rattle.theory.specs.Postfix.{path_of}
use Rattle.theory.specs.Simplification.{normal_form}
use Rattle.fields.specs.declared.Source.TheVariants as source
use Rattle.fields.specs.Call.{accepts, and_then, file, Output, simple_call, file_in}
use Rattle.fields.specs.declared.Size.{Size}
use Rattle.question.specs.Form.{question_form, question_symbols}
use Rattle.question.specs.Writing.{question_bytes}

-- the codes of the path that none fits; a question that was read has a path
abbrev pub codes_of : Option PathExpr → List ℕ
codes_of none = []
codes_of (some p) = codes (normal_form p)

unfoldable pub shortened_codes : List ℕ → List ℕ
shortened_codes cs = codes_of (path_of (question_symbols cs))

-- 14, or their file; the first number that is told is that of its symbols
unfoldable pub shortened_in : List ℕ → List ℕ → Output Size (List ℕ)
shortened_in cs area =
    let short = shortened_codes cs in
    file_in (length short) (question_bytes short) area

-- the file's refusals leave the area as it came
unfoldable pub shorten_call : List ℕ → List ℕ → Output Size (List ℕ)
shorten_call question area = simple_call (and_then (file source.Question question_form question) (λ cs. accepts (shortened_in cs))) area
