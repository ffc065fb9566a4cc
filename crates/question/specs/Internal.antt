-- What the code needs on the way: nothing that is handed on rests on it.
-- Assumes nothing.
use Rattle.std.specs.Prelude as std
use Rattle.std.specs.Prelude.{◌≡◌, ℕ, ◌<◌, Some, None}
use Rattle.std.proofs.Math.Option.{Option, none, some}
use Rattle.fields.specs.Table.{tag_length}
use Rattle.symbols.specs.declared.Stack.{Stack}
use Rattle.symbols.specs.Symbols.{symbol_length}
use Rattle.field_reader.specs.declared.Standing.{Standing}
use Rattle.field_reader.specs.declared.Standing.TheVariants.{Head, Within}

-- what the code needs of a body before it looks
abbrev pub BodyReady : Standing Stack → ℕ → ℕ → Type 0
BodyReady Head t n = n ≡ tag_length 0x21
BodyReady (Within q) t n = (n ≡ symbol_length t) × ((0 < q.left) × (q.depth < 255))

-- what a field leads to: of the head, of a symbol, of either
abbrev pub begun : Stack → Standing Stack × Option ℕ
begun q = (Within q, none)

abbrev pub grown : ℕ × Stack → Standing Stack × Option ℕ
grown (c, q) = (Within q, some c)

abbrev pub turned : std.Option ℕ × Stack → Standing Stack × Option ℕ
turned (None, q) = begun q
turned (Some c, q) = grown (c, q)
