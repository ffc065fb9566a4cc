-- The table of permitted kinds, which a reader of sheets hands on: bit `to` of word link * 64 + from is set for each permitted triple.
-- Assumes nothing.
use Rattle.std.specs.Prelude.{Bool, ℕ, ◌+◌, ◌*◌, get_or, set, replicate}
use mathlib.Core.List.{List, foldl}
use Rattle.bits.specs.Bit.{bit_of, with_bit}
use Rattle.theory.specs.Register.{Edge}
use Rattle.theory.specs.Sheet.{Sheet}
use Rattle.theory.specs.Result.{Result, got, refused}

-- the word of a from kind and a link
abbrev pub cell : ℕ → ℕ → ℕ
cell a l = l * 64 + a

-- the bit of a triple in a table
unfoldable pub tabled? : List ℕ → ℕ → ℕ → ℕ → Bool
tabled? t a l b = bit_of (get_or t (cell a l) 0) b

-- one triple more
abbrev pub permit : List ℕ → Edge → List ℕ
permit t e = let i = cell e.from e.label in set t i (with_bit (get_or t i 0) e.to)

unfoldable pub table_of : List Edge → List ℕ
table_of es = foldl permit (replicate 4096 0) es

-- all 0 where the file is refused
abbrev pub table_in : Result Sheet → List ℕ
table_in (got S) = table_of S.permitted
table_in (refused n p) = replicate 4096 0
