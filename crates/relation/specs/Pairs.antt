-- A relation on n records as n rows of w words: the pair (s, t) is bit t of row s.
-- Assumes nothing.
use Rattle.std.specs.Prelude.{◌≡◌, Bool, true, ◌&&◌, ◌||◌, List, ℕ, ◌+◌, ◌*◌, ◌/◌, ◌<◌}
use Rattle.bits.specs.Bit.{bit_of}
use Rattle.theory.specs.Lists.{some?, range}
use Rattle.rows.specs.Kept.{Kept}
use Rattle.rows.specs.Row.{row_bit}

-- the pair (s, t) of the relation that starts at word b
abbrev pub pair_at : List ℕ → ℕ → ℕ → ℕ → ℕ → Bool
pair_at xs b w s t = row_bit xs (b + s * w) t

-- the relation at b has become f, and nothing else changed; f speaks of all bits of a row, so that those of n or more are f's too
pub record Made (b n w : ℕ) (f : ℕ → ℕ → Bool) (xs ys : List ℕ) : Type 0 where
  pub kept : Kept b (b + n * w) xs ys
  pub pair : (s t : ℕ) → s < n → t / 64 < w → pair_at ys b w s t ≡ f s t

-- the relation at p has become what f makes of it and of the one at q, and nothing else changed
abbrev pub Combined : ((ℕ → ℕ → Bool) → (ℕ → ℕ → Bool) → ℕ → ℕ → Bool) → ℕ → ℕ → ℕ → ℕ → List ℕ → List ℕ → Type 0
Combined f p q n w xs ys = Made p n w (f (pair_at xs p w) (pair_at xs q w)) xs ys

-- row r, and the relation at b, have no bit of n or more
abbrev pub CleanRow : List ℕ → ℕ → ℕ → ℕ → Type 0
CleanRow xs r n w = (t : ℕ) → t / 64 < w → row_bit xs r t ≡ true → t < n

abbrev pub Clean : List ℕ → ℕ → ℕ → ℕ → Type 0
Clean xs b n w = (s : ℕ) → s < n → CleanRow xs (b + s * w) n w

-- row r and, bit by bit of v, the rows z = g + i of the relation at q, for each bit i of v below p
unfoldable pub taken : List ℕ → List ℕ → ℕ → ℕ → ℕ → ℕ → ℕ → ℕ → Bool
taken rs xs q w g v p t = row_bit rs 0 t || some? (λ i. bit_of v i && pair_at xs q w (g + i) t) (range p)

-- row r and the rows z of the relation at q, for each z below k that the row at d of fs and the one at m of the mask have
unfoldable pub taken_row : List ℕ → List ℕ → ℕ → List ℕ → ℕ → ℕ → List ℕ → ℕ → ℕ → ℕ → Bool
taken_row rs fs d xs q w ms m k t = row_bit rs 0 t || some? (λ z. row_bit fs d z && (pair_at xs q w z t && row_bit ms m z)) (range k)

-- the rows z of the relation at q, united, for each z below n that the row at d of fs and the one at m of the mask have
abbrev pub followed : List ℕ → ℕ → List ℕ → ℕ → ℕ → ℕ → List ℕ → ℕ → ℕ → Bool
followed fs d xs q n w ms m t = some? (λ z. row_bit fs d z && (pair_at xs q w z t && row_bit ms m z)) (range n)
