-- Elements of an array as a list.
-- Assumes nothing.
use Rattle.std.specs.Prelude.{List, ℕ, ◌-◌, get_or}
use Rattle.theory.specs.Lists.{tabulate}

-- the elements from k up to n
unfoldable pub segment : List ℕ → ℕ → ℕ → List ℕ
segment a k n = tabulate (λ i. get_or a i 0) k (n - k)
