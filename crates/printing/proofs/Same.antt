-- Answers that agree on all pairs below n have one text.
-- Assumes nothing.
use mathlib.Core.Path.{◌≡◌, refl, ap, ap₂}
use mathlib.Core.Bool.{Bool, cond}
use mathlib.Core.List.{List, ◌∷◌, ◌++◌}
use Prim.Native.Nat.{ℕ, zero, suc, ◌+◌, ◌<◌}
use native.Mathlib.Omega.{arith}
use lib.ListN.{length}
use Rattle.theory.specs.Lists.{filter, concat_map, tabulate, range}
use Rattle.printing.specs.Text.{line, row_lines, lines, count, answer_text}

module _ (f g : ℕ → List ℕ) where
  concat_same : (i k : ℕ) → ((x : ℕ) → x < i + k → f x ≡ g x) → concat_map f (tabulate (λ x. x) i k) ≡ concat_map g (tabulate (λ x. x) i k)
  concat_same i zero h = refl
  concat_same i (suc k) h = ap₂ (λ (a b : List ℕ). a ++ b) (h i (omega arith)) (concat_same (suc i) k (λ x l. h x (omega arith)))

module _ (f g : ℕ → Bool) where
  filter_same : (i k : ℕ) → ((x : ℕ) → x < i + k → f x ≡ g x) → filter f (tabulate (λ x. x) i k) ≡ filter g (tabulate (λ x. x) i k)
  filter_same i zero h = refl
  filter_same i (suc k) h =
      ap₂ (λ (b : Bool) (r : List ℕ). cond b (i ∷ r) r) (h i (omega arith)) (filter_same (suc i) k (λ x l. h x (omega arith)))

module _ (f g : ℕ → ℕ → Bool) (n : ℕ) (same : (s t : ℕ) → s < n → t < n → f s t ≡ g s t) where
  targets_same : (s : ℕ) → s < n → filter (f s) (range n) ≡ filter (g s) (range n)
  targets_same s h = filter_same (f s) (g s) 0 n (λ t l. same s t h (omega arith))

  lines_same : lines f n ≡ lines g n
  unfolding lines row_lines
  lines_same =
      concat_same (λ s. row_lines (f s) s n) (λ s. row_lines (g s) s n) 0 n
      (λ s l. ap (concat_map (line s)) (targets_same s (omega arith)))

  count_same : count f n ≡ count g n
  unfolding count
  count_same = ap length (concat_same (λ s. filter (f s) (range n)) (λ s. filter (g s) (range n)) 0 n (λ s l. targets_same s (omega arith)))

  pub answer_same : (m : ℕ) → answer_text m f n ≡ answer_text m g n
  unfolding answer_text
  answer_same m = rw (lines_same, count_same)
