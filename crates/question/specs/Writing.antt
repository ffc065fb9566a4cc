-- The bytes of a question, by the codes of its symbols.
-- SPECIFICATION, Questions.
-- Assumes nothing.
use Rattle.std.specs.Prelude.{List, [], ◌∷◌, ◌++◌, map, ℕ, length}
use Rattle.fields.specs.Writing.{field_bytes}
use Rattle.symbols.specs.Symbols.{Numbered, numbered}
use Rattle.symbols.specs.Writing.{symbols_bytes}

-- symbols without a set
abbrev pub numbered_codes : List ℕ → List Numbered
numbered_codes cs = map (λ c. numbered c 0) cs

unfoldable pub question_bytes : List ℕ → List ℕ
question_bytes cs = field_bytes 0x21 (length cs ∷ []) ++ symbols_bytes (numbered_codes cs)
