-- The call on "chain of the chain of under", computed: with a byte to spare, with one too few, and after a file that is refused.
-- Assumes nothing.
use mathlib.Core.Path.{◌≡◌, refl}
use mathlib.Core.List.{List, [], ◌∷◌}
use Prim.Native.Nat.{ℕ}
use lib.ListN.{replicate}
use Rattle.fields.specs.declared.Source.TheVariants as source
use Rattle.fields.specs.Call.{accepts, refuses, size, output, file_in}
use Rattle.fields.specs.Reading.{read, walk, field_at, due_rows, due_tag?, fitting, eight}
use Rattle.fields.specs.Table.{rows, rows_of}
use Rattle.symbols.specs.Symbols.{symbol_numbered, step_of, operator_of, symbol_in, arity, push}
use Rattle.question.specs.Form.{head_of}
use Rattle.question.specs.Writing.{question_bytes}
use Rattle.shortening.specs.Call.{shortened_codes, shortened_in, shorten_call}

abbrev under : List ℕ → List ℕ
under r = 0x43 ∷ 0 ∷ 2 ∷ 0 ∷ 4 ∷ r

abbrev chain : List ℕ → List ℕ
chain r = 0x44 ∷ 0 ∷ 1 ∷ 133 ∷ r

abbrev asked : List ℕ
asked = 0x21 ∷ 0 ∷ 1 ∷ 3 ∷ under (chain (chain []))

pub one_to_spare : shorten_call asked (replicate 14 7) ≡ output (accepts (size 2 13)) (0x21 ∷ 0 ∷ 1 ∷ 2 ∷ under (chain (7 ∷ [])))
unfolding shorten_call read walk field_at due_rows due_tag? fitting rows_of rows head_of eight step_of operator_of symbol_in arity push
    shortened_in shortened_codes symbol_numbered file_in question_bytes
one_to_spare = refl

pub one_too_few : shorten_call asked (replicate 12 7) ≡ output (refuses source.Work 14 13) (replicate 12 7)
unfolding shorten_call read walk field_at due_rows due_tag? fitting rows_of rows head_of eight step_of operator_of symbol_in arity push
    shortened_in shortened_codes symbol_numbered file_in question_bytes
one_too_few = refl

pub refused_first : shorten_call [] [] ≡ output (refuses source.Question 5 0) []
unfolding shorten_call read walk field_at
refused_first = refl
