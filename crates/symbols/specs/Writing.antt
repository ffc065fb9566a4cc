-- The bytes of a path's symbols.
-- SPECIFICATION, Paths and symbols.
-- Assumes nothing.
use Rattle.std.specs.Prelude.{List, [], ◌∷◌, ℕ}
use Rattle.theory.specs.Lists.{concat_map}
use Rattle.theory.specs.PathExpr.{Direction, forward, reverse, Label, named, any, through, Symbol, s_step, s_join, s_op, s_closure}
use Rattle.fields.specs.Writing.{eight_bytes, field_bytes}
use Rattle.symbols.specs.Symbols.{Numbered, symbol_of}

abbrev pub direction_number : Direction → ℕ
direction_number forward = 0
direction_number reverse = 1

abbrev pub label_number : Label → ℕ
label_number (named l) = l

-- a symbol's tag and body, by its number c, which is the body of an operator (so one that is no symbol's is refused where it is read)
abbrev pub tag_of : Symbol → ℕ
tag_of (s_step d l) = 0x43
tag_of (s_join any) = 0x44
tag_of (s_join (through m)) = 0x45
tag_of (s_op o) = 0x44
tag_of s_closure = 0x44

abbrev pub body_of : ℕ → Symbol → List ℕ
body_of c (s_step d l) = direction_number d ∷ label_number l ∷ []
body_of c (s_join any) = c ∷ []
body_of c (s_join (through m)) = eight_bytes m
body_of c (s_op o) = c ∷ []
body_of c s_closure = c ∷ []

abbrev pub symbol_tag : Numbered → ℕ
symbol_tag x = tag_of (symbol_of x)

abbrev pub symbol_body : Numbered → List ℕ
symbol_body x = body_of x.number (symbol_of x)

abbrev pub symbol_bytes : Numbered → List ℕ
symbol_bytes x = field_bytes (symbol_tag x) (symbol_body x)

abbrev pub symbols_bytes : List Numbered → List ℕ
symbols_bytes xs = concat_map symbol_bytes xs
