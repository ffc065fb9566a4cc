-- What the code needs on the way: nothing that is handed on rests on it.
-- Assumes nothing.
use Rattle.std.specs.Prelude.{◌≡◌, ℕ, ◌+◌, ◌<◌}
use Rattle.fields.specs.Table.{tag_length}
use Rattle.field_reader.specs.declared.Standing.{Standing}
use Rattle.field_reader.specs.declared.Standing.TheVariants.{Head, Within}
use Rattle.register.specs.declared.Progress.{Progress}
use Rattle.register.specs.Form.{due_tag}

-- what the code needs of a body's length before it looks
abbrev pub BodyReady : Standing Progress → ℕ → Type 0
BodyReady Head n = n ≡ tag_length 0x31
BodyReady (Within q) n = (n ≡ tag_length (due_tag q)) × (0 < q.kindless + q.left)
