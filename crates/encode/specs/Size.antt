-- How many bytes a symbol's field takes, by its number.
-- SPECIFICATION, Files in general: 43, 44, 45.
-- Assumes nothing.
use Rattle.std.specs.Prelude.{ℕ}
use Rattle.fields.specs.Table.{field_size}
use Rattle.symbols.specs.Symbols.{symbol_numbered}
use Rattle.symbols.specs.Writing.{tag_of}

unfoldable pub symbol_size : ℕ → ℕ
symbol_size c = field_size (tag_of (symbol_numbered c 0))
