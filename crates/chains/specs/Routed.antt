-- Routes over relations in the work words: relation after relation, joined through masks. Of words on the way: no caller needs to read this.
-- Assumes nothing.
use Rattle.std.specs.Prelude.{◌≡◌, Bool, ◌&&◌, ◌||◌, List, ◌⊎◌, ℕ, zero, suc, ◌+◌, ◌*◌, ◌/◌, ◌<◌, ◌≤◌, length, get_or}
use Rattle.theory.specs.PathExpr.{PathExpr}
use Rattle.theory.specs.TransitiveClosure.{look}
use Rattle.theory.specs.Register.{Register}
use Rattle.theory.specs.Evaluation.{join?, evaluate}
use Rattle.rows.specs.Kept.{Kept}
use Rattle.rows.specs.Row.{row_bit}
use Rattle.relation.specs.Pairs.{pair_at, Clean}

-- a pair of the route of m links over the relations of xs that lie where bs says; link j goes through the records of mask j
abbrev pub routed : List ℕ → List ℕ → List ℕ → ℕ → ℕ → ℕ → ℕ → ℕ → Bool
routed xs bs ms n w zero s t = pair_at xs (get_or bs 0 0) w s t
routed xs bs ms n w (suc m) s t = join? n (row_bit ms (16 * m)) (routed xs bs ms n w m) (pair_at xs (get_or bs (m + 1) 0) w) s t

-- there is such a route: its relations lie in xs, and have no bit of n or more
pub record Routed (xs bs ms : List ℕ) (n w m : ℕ) : Type 0 where
  pub few : m < length bs
  pub narrow : w ≤ 16
  pub wide : n ≤ 64 * w
  pub masks : 16 * m ≤ length ms
  pub room : (j : ℕ) → j ≤ m → get_or bs j 0 + n * w ≤ length xs
  pub clean : (j : ℕ) → j ≤ m → Clean xs (get_or bs j 0) n w

-- its pairs are those of a path
abbrev pub Leads : Register → List ℕ → List ℕ → List ℕ → ℕ → ℕ → ℕ → PathExpr → Type 0
Leads r xs bs ms n w m p = (s t : ℕ) → s < n → t / 64 < w → routed xs bs ms n w m s t ≡ look (evaluate r p) s t

-- the pairs of f whose ends two masks have
abbrev pub between : (ℕ → ℕ → Bool) → List ℕ → List ℕ → ℕ → ℕ → Bool
between f from to s t = f s t && (row_bit from 0 s && row_bit to 0 t)

-- of the relation at the start, the rows from lo to hi have taken in the pairs f, and the others are as they were
pub record Gained (lo hi n w : ℕ) (f : ℕ → ℕ → Bool) (xs ys : List ℕ) : Type 0 where
  pub kept : Kept 0 (n * w) xs ys
  pub gained : (s t : ℕ) → lo ≤ s → s < hi → s < n → t / 64 < w → row_bit ys (s * w) t ≡ row_bit xs (s * w) t || f s t
  pub other : (s t : ℕ) → (s < lo) ⊎ (hi ≤ s) → s < n → t / 64 < w → row_bit ys (s * w) t ≡ row_bit xs (s * w) t
