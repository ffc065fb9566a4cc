-- Fields taken one after the other, as a loop of the code passes over them; nothing that is handed on rests on it.
-- Assumes nothing.
use Rattle.std.specs.Prelude.{◌≡◌, List, ℕ, ◌+◌, ◌/◌, ◌%◌, ◌<◌, ◌≤◌, length, get_or, take, drop}
use Rattle.fields.specs.Table.{tag_length, field_size}
use Rattle.theory.specs.Result.{got}
use Rattle.fields.specs.Reading.{word, eight, body, field_at}
use Rattle.register.specs.declared.Progress.{Progress}
use Rattle.field_reader.specs.declared.Standing.TheVariants.{Within}
use Rattle.register.specs.Form.{due, entry_of}

-- a kind is due at a place, and a whole field with its tag and length lies there
pub record KindAt (s : List ℕ) (q : Progress) (at : ℕ) : Type 0 where
  pub due : 0 < q.kindless
  pub room : at + field_size 0x32 ≤ length s
  pub tag : get_or s at 0 ≡ 0x32
  pub len : word s (at + 1) ≡ tag_length 0x32

-- the number in eight bytes that lie at a place
pub record NumberAt (s : List ℕ) (at v : ℕ) : Type 0 where
  pub room : at + 8 ≤ length s
  pub is : v ≡ eight s at

-- a link is due, and the number of its field is within the bounds, its link one of 64, and to one of the records
pub record Passes (v left floor top records : ℕ) : Type 0 where
  pub due : 0 < left
  pub low : floor ≤ v
  pub high : v < top
  pub label : v / 65536 % 256 < 64
  pub to : v % 65536 < records

-- from a place and a progress to another: none, or one field more
pub data Passed (s : List ℕ) (q : Progress) (at : ℕ) : Progress → ℕ → Type 0 where
  here : Passed s q at q at
  further : (p : Progress) (i t n : ℕ) (r : Progress) → Passed s q at p i → field_at (due (Within p)) s i ≡ body t n → entry_of p i (take n (drop (i + 3) s)) ≡ got r
      → Passed s q at r (i + 3 + n)
