-- Files with what reading them yields, computed: the questions of cases 1 and 4 of SPECIFICATION and the edges of a question.
-- Assumes nothing.
use mathlib.Core.Path.{refl}
use mathlib.Core.List.{List, [], ◌∷◌}
use Prim.Native.Nat.{ℕ}
use Rattle.fields.specs.Case.{Case, case, AllRead}
use Rattle.theory.specs.Result.{got, refused}
use Rattle.fields.specs.Table.{rows, rows_of}
use Rattle.fields.specs.Reading.{eight, read, walk, field_at, fitting, due_rows, due_tag?}
use Rattle.symbols.specs.Symbols.{symbol_numbered, step_of, operator_of, symbol_in, arity, push}
use Rattle.question.specs.Form.{question_form, head_of}

-- the fields, before what comes after them
abbrev f21 : ℕ → List ℕ → List ℕ
f21 n r = 0x21 ∷ 0 ∷ 1 ∷ n ∷ r

abbrev f43 : ℕ → ℕ → List ℕ → List ℕ
f43 d l r = 0x43 ∷ 0 ∷ 2 ∷ d ∷ l ∷ r

abbrev f44 : ℕ → List ℕ → List ℕ
f44 o r = 0x44 ∷ 0 ∷ 1 ∷ o ∷ r

abbrev pub cases : List (Case (List ℕ))
cases =
    -- carries/sealed, under+, and the last link against its direction
    case (f21 3 (f43 0 0 (f43 0 3 (f44 128 [])))) (got (0 ∷ 3 ∷ 128 ∷ []))
    ∷ case (f21 2 (f43 0 4 (f44 133 []))) (got (4 ∷ 133 ∷ []))
    ∷ case (f21 1 (f43 1 63 [])) (got (127 ∷ []))
    ∷ case [] (refused 5 0)
    -- numbers out of range
    ∷ case (f21 0 []) (refused 3 0)
    ∷ case (f21 33 []) (refused 3 0)
    ∷ case (f21 1 (f43 2 0 [])) (refused 3 4)
    ∷ case (f21 1 (f43 0 64 [])) (refused 3 4)
    ∷ case (f21 1 (f44 134 [])) (refused 3 4)
    -- 45 is not a question's
    ∷ case (f21 3 (f43 0 0 (f43 0 3 (0x45 ∷ 0 ∷ 8 ∷ 0 ∷ 0 ∷ 0 ∷ 0 ∷ 0 ∷ 0 ∷ 0 ∷ 2 ∷ [])))) (refused 2 14)
    -- an operand lacking, and one left over
    ∷ case (f21 2 (f43 0 0 (f44 128 []))) (refused 6 9)
    ∷ case (f21 2 (f43 0 0 (f43 0 1 []))) (refused 6 14)
    -- a byte too many, a field too few, a field cut in its head and in its body
    ∷ case (f21 1 (f43 0 0 (0 ∷ []))) (refused 5 9)
    ∷ case (f21 2 (f43 0 0 [])) (refused 5 9)
    ∷ case (f21 1 (0x43 ∷ 0 ∷ [])) (refused 1 4)
    ∷ case (f21 1 (0x43 ∷ 0 ∷ 2 ∷ 0 ∷ [])) (refused 1 4)
    ∷ []

pub all_read : AllRead question_form cases
unfolding read walk field_at due_rows due_tag? fitting rows_of rows head_of eight step_of operator_of symbol_in arity symbol_numbered push
all_read = refl
