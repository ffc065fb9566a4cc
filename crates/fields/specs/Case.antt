-- Cases of reading a file: its bytes, and what is due for them.
-- Assumes nothing.
use Rattle.std.specs.Prelude.{◌≡◌, List, map, ℕ}
use Rattle.theory.specs.Result.{Result}
use Rattle.fields.specs.Reading.{Form, read}

pub record Case (A : Type 0) : Type 0 where
  pub file : List ℕ
  pub expected : Result A

abbrev pub case : {A : Type 0} → List ℕ → Result A → Case A
case s a = record { file = s; expected = a }

-- each file of a table is read as it says
abbrev pub AllRead : (F : Form) → List (Case F.Value) → Type 0
AllRead F cs = map (λ c. read F c.file) cs ≡ map (λ c. c.expected) cs
