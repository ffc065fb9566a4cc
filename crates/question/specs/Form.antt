-- The question file: 21 and its symbols.
-- SPECIFICATION, Questions, Refused questions.
-- Assumes nothing.
use Rattle.std.specs.Prelude.{false, cond, ◌&&◌, List, [], ◌∷◌, map, ℕ, leb, get_or}
use Rattle.std.proofs.Math.Option.{Option, none, some}
use Rattle.theory.specs.PathExpr.{Symbol}
use Rattle.fields.specs.declared.File.TheVariants as file
use Rattle.fields.specs.declared.Due.{Due}
use Rattle.symbols.specs.declared.Stack.{Stack}
use Rattle.theory.specs.Result.{Result, got, refused, onward}
use Rattle.fields.specs.Reading.{tags_due, Form, Format, collected, form}
use Rattle.field_reader.specs.declared.Standing.{Standing}
use Rattle.field_reader.specs.declared.Standing.TheVariants.{Head, Within}
use Rattle.symbols.specs.Symbols.{Numbered, symbol_numbered, symbol_in, arity, push, due_symbols}

-- the head is due; or the symbols of a path are
abbrev pub due : Standing Stack → Due
due Head = tags_due file.Question (0x21 ∷ []) false false
due (Within q) = due_symbols file.Question q

-- 21: the number of symbols, 1 to 32; refusal 3
unfoldable pub head_of : ℕ → List ℕ → Result ℕ
head_of at b = cond (leb 1 (get_or b 0 0) && leb (get_or b 0 0) 32) (got (get_or b 0 0)) (refused 3 at)

-- a path of n symbols, none of them read
abbrev pub fresh : ℕ → Stack
fresh n = record { left = n; depth = 0 }

-- a symbol, handed over by its number
abbrev pub one_more : Stack → ℕ → ℕ → Numbered → Result (Standing Stack × Option ℕ)
one_more q at next x = onward (λ q'. got (Within q', some x.number)) (push q at next (arity x.number))

abbrev pub judge : Standing Stack → ℕ → ℕ → ℕ → List ℕ → Result (Standing Stack × Option ℕ)
judge Head at next t b = onward (λ n. got (Within (fresh n), none)) (head_of at b)
judge (Within q) at next t b = onward (one_more q at next) (symbol_in at t b)

-- the codes of the symbols
abbrev pub question_format : Format
question_format = record {
  Control = Standing Stack;
  Item = Option ℕ;
  Kept = List ℕ;
  Value = List ℕ;
  start = Head;
  empty = [];
  due = due;
  judge = judge;
  keep = collected;
  value = λ st cs. cs;
}

abbrev pub question_form : Form
question_form = form question_format

-- the symbols that the codes stand for
abbrev pub question_symbols : List ℕ → List Symbol
question_symbols cs = map (λ c. symbol_numbered c 0) cs
