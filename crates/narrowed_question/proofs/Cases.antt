-- Files with what reading them yields, computed: a member, a member twice, an empty file. The file of starred case 1 is in crates/starred_cases.
-- Assumes nothing.
use mathlib.Core.Path.{refl}
use mathlib.Core.List.{List, [], ◌∷◌}
use Rattle.theory.specs.PathExpr.{forward, named, through, step, join}
use Rattle.theory.specs.Merging.{Member, member}
use Rattle.theory.specs.Result.{got, refused}
use Rattle.fields.specs.Case.{Case, case, AllRead}
use Rattle.fields.specs.Table.{rows, rows_of}
use Rattle.fields.specs.Reading.{eight, fitting, field_at, walk, read, due_rows, due_tag?}
use Rattle.symbols.specs.Symbols.{symbol_numbered, order_code, arity, step_of, operator_of, symbol_in, push}
use Rattle.narrowed_question.specs.Form.{Flat, narrowed_form, count_of, open_of, member_symbol}
use Rattle.narrowed_question.specs.Writing.{encode}
use Rattle.narrowed_question.specs.Members.{flat_of, narrowed_file}

abbrev one : Member
one = member 1 (join (through 2) (step forward (named 0)) (step forward (named 3))) 8

abbrev pub cases : List (Case (List Flat))
cases =
    case (narrowed_file (one ∷ [])) (got (flat_of one ∷ []))
    ∷ case (narrowed_file (one ∷ one ∷ [])) (refused 4 46)
    ∷ case [] (refused 5 0)
    ∷ []

pub all_read : AllRead narrowed_form cases
unfolding count_of open_of member_symbol rows_of rows eight due_rows due_tag? fitting field_at walk read order_code arity symbol_numbered step_of operator_of symbol_in push encode narrowed_file
all_read = refl
