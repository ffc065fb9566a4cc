-- Files with what reading them yields, computed: case 11 of SPECIFICATION and the edges of a register.
-- Assumes nothing.
use mathlib.Core.Path.{refl}
use mathlib.Core.List.{List, [], ◌∷◌}
use Prim.Native.Nat.{ℕ}
use Rattle.theory.specs.Register.{edge, Register}
use Rattle.fields.specs.Case.{Case, case, AllRead}
use Rattle.theory.specs.Result.{got, refused}
use Rattle.fields.specs.Table.{rows, rows_of}
use Rattle.fields.specs.Reading.{read, walk, due_rows, due_tag?, fitting, field_at}
use Rattle.register.specs.Form.{register_form, head_of, kind_of, link_of, entry_of, key}

-- the fields, before what comes after them
abbrev f31 : ℕ → ℕ → List ℕ → List ℕ
f31 n l r = 0x31 ∷ 0 ∷ 4 ∷ 0 ∷ n ∷ 0 ∷ l ∷ r

abbrev f32 : ℕ → List ℕ → List ℕ
f32 k r = 0x32 ∷ 0 ∷ 1 ∷ k ∷ r

abbrev f33 : ℕ → ℕ → ℕ → List ℕ → List ℕ
f33 a l b r = 0x33 ∷ 0 ∷ 5 ∷ 0 ∷ a ∷ l ∷ 0 ∷ b ∷ r

abbrev pub cases : List (Case Register)
cases =
    case (f31 6 6 (f32 0 (f32 1 (f32 3 (f32 4 (f32 5 (f32 0 (f33 0 0 1 (f33 0 3 2 (f33 0 4 3 (f33 1 3 2 (f33 3 4 4 (f33 5 4 3 [])))))))))))))
    (got (record {
      kinds = 0 ∷ 1 ∷ 3 ∷ 4 ∷ 5 ∷ 0 ∷ [];
      links = edge 0 0 1 ∷ edge 0 3 2 ∷ edge 0 4 3 ∷ edge 1 3 2 ∷ edge 3 4 4 ∷ edge 5 4 3 ∷ [];
    }))
    ∷ case [] (refused 5 0)
    -- no records, and none that a link could be from
    ∷ case (f31 0 0 []) (got (record { kinds = []; links = [] }))
    ∷ case (f31 0 1 (f33 0 0 0 [])) (refused 3 7)
    -- a kind and a link out of range
    ∷ case (f31 1 0 (f32 64 [])) (refused 3 7)
    ∷ case (f31 1 1 (f32 0 (f33 0 64 0 []))) (refused 3 11)
    -- a link not above the one before: the same, and one below it
    ∷ case (f31 2 2 (f32 0 (f32 0 (f33 0 0 1 (f33 0 0 1 []))))) (refused 4 23)
    ∷ case (f31 2 2 (f32 0 (f32 0 (f33 0 1 0 (f33 0 0 1 []))))) (refused 4 23)
    -- a byte too many, and a field too few
    ∷ case (f31 1 0 (f32 0 (7 ∷ []))) (refused 5 11)
    ∷ case (f31 1 1 (f32 0 [])) (refused 5 11)
    ∷ []

pub all_read : AllRead register_form cases
unfolding read walk field_at due_rows due_tag? fitting rows_of rows head_of kind_of link_of entry_of key
all_read = refl
