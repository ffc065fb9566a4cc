-- The bytes of a narrowed question.
-- SPECIFICATION, Narrowed files: 41, 42, and the symbols of each member.
-- Assumes nothing.
use Rattle.std.specs.Prelude.{List, ◌∷◌, ◌++◌, ℕ, length}
use Rattle.theory.specs.Lists.{concat_map}
use Rattle.fields.specs.Writing.{two_bytes, eight_bytes, field_bytes}
use Rattle.symbols.specs.Writing.{symbols_bytes}
use Rattle.narrowed_question.specs.Form.{Flat}

abbrev pub head_bytes : Flat → List ℕ
head_bytes m = field_bytes 0x42 (length m.symbols ∷ (eight_bytes m.from ++ eight_bytes m.to))

abbrev pub member_bytes : Flat → List ℕ
member_bytes m = head_bytes m ++ symbols_bytes m.symbols

abbrev pub members_bytes : List Flat → List ℕ
members_bytes ms = concat_map member_bytes ms

unfoldable pub encode : List Flat → List ℕ
encode ms = field_bytes 0x41 (two_bytes (length ms)) ++ members_bytes ms
