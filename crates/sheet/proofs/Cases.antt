-- Files with what reading them yields, computed: a sheet, and the edges of one.
-- SPECIFICATION, Refused sheets.
-- Assumes nothing.
use mathlib.Core.Path.{refl}
use mathlib.Core.List.{List, [], ◌∷◌, ◌++◌}
use Prim.Native.Nat.{ℕ}
use Rattle.theory.specs.Sheet.{Sheet}
use Rattle.theory.specs.Register.{edge}
use Rattle.theory.specs.Result.{got, refused}
use Rattle.fields.specs.Case.{Case, case, AllRead}
use Rattle.fields.specs.Reading.{read, walk, due_rows, due_tag?, fitting, field_at}
use Rattle.fields.specs.Table.{rows, rows_of}
use Rattle.sheet.specs.Form.{sheet_form, head_of, next}

abbrev head : ℕ → ℕ → List ℕ
head k e = 0x11 ∷ 0 ∷ 2 ∷ k ∷ e ∷ []

abbrev triple : ℕ → ℕ → ℕ → List ℕ
triple a l b = 0x12 ∷ 0 ∷ 3 ∷ a ∷ l ∷ b ∷ []

abbrev pub cases : List (Case Sheet)
cases =
    case (head 6 5 ++ triple 0 0 1 ++ triple 0 3 3) (got (record { kinds = 6; link_names = 5; permitted = edge 0 0 1 ∷ edge 0 3 3 ∷ [] }))
    -- the edges of the ranges
    ∷ case (head 64 64) (got (record { kinds = 64; link_names = 64; permitted = [] }))
    ∷ case (head 65 5) (refused 3 0)
    ∷ case (head 6 0) (refused 3 0)
    ∷ case (head 6 5 ++ triple 0 5 1) (refused 3 5)
    ∷ case (head 6 5 ++ triple 0 0 6) (refused 3 5)
    -- a triple as the one before; 3 comes before 4
    ∷ case (head 6 5 ++ triple 0 0 1 ++ triple 0 0 1) (refused 4 11)
    ∷ case (head 6 5 ++ triple 1 0 1 ++ triple 0 0 6) (refused 3 11)
    -- ends and tags
    ∷ case [] (refused 5 0)
    ∷ case (head 6 5 ++ (0x12 ∷ [])) (refused 1 5)
    ∷ case (head 6 5 ++ head 6 5) (refused 2 5)
    ∷ case (head 6 5 ++ (0x12 ∷ 0 ∷ 3 ∷ 0 ∷ 0 ∷ [])) (refused 1 5)
    ∷ []

pub all_read : AllRead sheet_form cases
unfolding read walk field_at due_rows due_tag? fitting rows_of rows head_of next
all_read = refl
