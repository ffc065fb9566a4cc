-- The walk over the links of an accepted file, from where they lie.
-- Assumes nothing.
use Rattle.std.specs.Prelude.{◌≡◌, List, ℕ, ◌*◌, ◌-◌, ◌≤◌, length, drop}
use Rattle.theory.specs.Register.{Edge, edge}
use Rattle.theory.specs.Result.{got}
use Rattle.fields.specs.Table.{field_size}
use Rattle.fields.specs.Reading.{read}
use Rattle.register.specs.declared.Edge as declared·Edge
use Rattle.register.specs.Form.{register_form, register_in}

-- the file is not refused
abbrev pub Accepted : List ℕ → Type 0
Accepted s = read register_form s ≡ got (register_in s)

-- the cursor's place before the last k links: they stand at the file's end
unfoldable pub cursor_at : List ℕ → ℕ → ℕ
cursor_at s k = length s - field_size 0x33 * k

-- a cursor at a place with a number left is one of an accepted file: before the last links, as many as are left
pub record OnLinks (s : List ℕ) (at left : ℕ) : Type 0 where
  pub accepted : Accepted s
  pub few : left ≤ length (register_in s).links
  pub placed : at ≡ cursor_at s left

-- the links still to come where some are left: the last ones, as many as are left
unfoldable pub to_come : List ℕ → ℕ → List Edge
to_come s left = drop (length (register_in s).links - left) (register_in s).links

-- the link that is handed out
abbrev pub edge_said : declared·Edge.Edge → Edge
edge_said e = edge e.from e.link.0 e.to
