-- A row of bits in a list of words.
-- Assumes nothing.
use Rattle.std.specs.Prelude.{◌≡◌, Bool, true, false, ◌&&◌, Option, Some, None, List, ℕ, ◌+◌, ◌/◌, ◌%◌, ◌<◌, ◌≤◌, ltb, get_or}
use Rattle.bits.specs.Bit.{bit_of}
use Rattle.rows.specs.Kept.{Kept}

-- bit t of the row that starts at word r
unfoldable pub row_bit : List ℕ → ℕ → ℕ → Bool
row_bit xs r t = bit_of (get_or xs (r + t / 64) 0) (t % 64)

-- the row of w words at d has become the one with the bits g, and nothing else changed
pub record Row (d w : ℕ) (g : ℕ → Bool) (xs ys : List ℕ) : Type 0 where
  pub kept : Kept d (d + w) xs ys
  pub bit : (t : ℕ) → t / 64 < w → row_bit ys d t ≡ g t

-- the same of every row at d that is long enough for bit t
abbrev pub Put : ℕ → ℕ → (ℕ → Bool) → List ℕ → List ℕ → Type 0
Put d t g xs ys = (w : ℕ) → t / 64 < w → Row d w g xs ys

-- the bits below n that pass a test
unfoldable pub mask_of : (ℕ → Bool) → ℕ → ℕ → Bool
mask_of f n j = ltb j n && f j

-- v is the word of those bits
pub record Word (f : ℕ → Bool) (n v : ℕ) : Type 0 where
  pub bit : (j : ℕ) → bit_of v j ≡ mask_of f n j

-- bit t, where the row at r and both masks have it
abbrev pub common : List ℕ → ℕ → List ℕ → List ℕ → ℕ → Bool
common xs r ps qs t = row_bit xs r t && (row_bit ps 0 t && row_bit qs 0 t)

-- k is the least number below m that passes a test, or m where none does
pub record Least (f : ℕ → Bool) (m k : ℕ) : Type 0 where
  pub most : k ≤ m
  pub here : k < m → f k ≡ true
  pub below : (j : ℕ) → j < k → f j ≡ false

-- the least number below m that passes a test, if one does
abbrev pub Found : (ℕ → Bool) → ℕ → Option ℕ → Type 0
Found f m (Some k) = (k < m) × Least f m k
Found f m None = Least f m m
