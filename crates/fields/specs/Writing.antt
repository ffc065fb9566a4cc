-- The bytes of a field.
-- SPECIFICATION, Files in general: a tag, a length of two bytes, a body; the high byte first.
-- Assumes nothing.
use Rattle.std.specs.Prelude.{List, [], ◌∷◌, ◌++◌, ℕ, ◌/◌, ◌%◌, ◌<◌, length, get_or}

-- each element is a byte
abbrev pub Bytes : List ℕ → Type 0
Bytes s = (i : ℕ) → get_or s i 0 < 256

-- two bytes, and eight, the high one first
abbrev pub two_bytes : ℕ → List ℕ
two_bytes n = n / 256 ∷ n % 256 ∷ []

abbrev pub eight_bytes : ℕ → List ℕ
eight_bytes n = two_bytes (n / 281474976710656) ++ (two_bytes (n / 4294967296 % 65536) ++ (two_bytes (n / 65536 % 65536) ++ two_bytes (n % 65536)))

-- tag, length, body
abbrev pub field_bytes : ℕ → List ℕ → List ℕ
field_bytes t b = t ∷ (two_bytes (length b) ++ b)
