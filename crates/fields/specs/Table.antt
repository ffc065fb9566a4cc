-- The table of tags. SPECIFICATION, Files in general.
-- Assumes nothing.
use Rattle.std.specs.Prelude.{Bool, true, false, cond, not, List, [], ◌∷◌, ℕ, ◌+◌, eqb}
use Rattle.std.specs.Int.Bits.{bit_and}
use Rattle.theory.specs.Lists.{some?}
use Rattle.fields.specs.declared.File.{File}
use Rattle.fields.specs.declared.File.TheVariants.{Sheet, Question, Register, Narrowed}
use Rattle.fields.specs.declared.Row.{Row}

abbrev row : ℕ → ℕ → Bool → Bool → Bool → Bool → ℕ → Row
row t n a b c d i = (t, n, a, b, c, d, i)

-- tag, length, whether a sheet, a question, a register, a narrowed question may have it, and the row's bit in a set of rows
unfoldable pub rows : List Row
rows =
    row 0x11 2 true false false false 1
    ∷ row 0x12 3 true false false false 2
    ∷ row 0x21 1 false true false false 4
    ∷ row 0x31 4 false false true false 8
    ∷ row 0x32 1 false false true false 16
    ∷ row 0x33 5 false false true false 32
    ∷ row 0x41 2 false false false true 64
    ∷ row 0x42 17 false false false true 128
    ∷ row 0x43 2 false true false true 256
    ∷ row 0x44 1 false true false true 512
    ∷ row 0x45 8 false false false true 1024
    ∷ []

abbrev pub allowed : Row → File → Bool
allowed r Sheet = r.2
allowed r Question = r.3
allowed r Register = r.4
allowed r Narrowed = r.5

-- a row is in a set
abbrev pub in_set : ℕ → Row → Bool
in_set m r = not (eqb (bit_and m r.6) 0)

-- the set of the rows that have one of these tags
abbrev pub set_in : List Row → List ℕ → ℕ
set_in [] ts = 0
set_in (r ∷ rs) ts = cond (some? (eqb r.0) ts) r.6 0 + set_in rs ts

unfoldable pub rows_of : List ℕ → ℕ
rows_of ts = set_in rows ts

-- the row of a tag; where there is none, one that allows no file
abbrev pub row_in : List Row → ℕ → Row
row_in [] t = row 0 0 false false false false 0
row_in (r ∷ rs) t = cond (eqb r.0 t) r (row_in rs t)

unfoldable pub row_of : ℕ → Row
row_of t = row_in rows t

-- the length of a tag: that of its row
unfoldable pub tag_length : ℕ → ℕ
tag_length t = (row_in rows t).1

-- the bytes of a whole field: its head, which has the tag and the length, and its body
unfoldable pub field_size : ℕ → ℕ
field_size t = 3 + tag_length t
