-- What a function that writes into lent words leaves as it was, and what it writes.
-- Assumes nothing.
use Rattle.std.specs.Prelude.{◌≡◌, List, ℕ, ◌+◌, ◌<◌, ◌≤◌, length, get_or}

-- ys is xs, but for words lo to hi
pub record Kept (lo hi : ℕ) (xs ys : List ℕ) : Type 0 where
  pub len : length ys ≡ length xs
  pub below : (k : ℕ) → k < lo → get_or ys k 0 ≡ get_or xs k 0
  pub above : (k : ℕ) → hi ≤ k → get_or ys k 0 ≡ get_or xs k 0

-- ys is xs, but the n words from d on are f 0, f 1, ..
pub record Wrote (d n : ℕ) (f : ℕ → ℕ) (xs ys : List ℕ) : Type 0 where
  pub kept : Kept d (d + n) xs ys
  pub word : (j : ℕ) → j < n → get_or ys (d + j) 0 ≡ f j
