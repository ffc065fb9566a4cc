-- Rows that have no bit of n or more.
-- Assumes nothing.
use mathlib.Core.Path.{◌≡◌, refl, sym, ◌∙◌}
use mathlib.Core.Bool.{Bool, true, false}
use mathlib.Core.List.{List}
use Prim.Native.Nat.{ℕ, ◌+◌, ◌*◌, ◌/◌, ◌≤◌, ◌<◌}
use native.Mathlib.Nat.{not-le_of_lt}
use native.Mathlib.Omega.{arith}
use Rattle.theory.specs.Lists.{some?, range}
use Rattle.rows.specs.Row.{row_bit}
use Rattle.rows.proofs.Ranges.{some_cut}
use Rattle.relation.specs.Pairs.{Made, CleanRow}
use Rattle.relation.proofs.Combining.{row_ahead}

pub clean_past : (xs : List ℕ) (r n w t : ℕ) → CleanRow xs r n w → t / 64 < w → n ≤ t → row_bit xs r t ≡ false
clean_past xs r n w t c h l = off (row_bit xs r t) (λ e. not-le_of_lt (c t h e) l)
  where
    off : (b : Bool) → (b ≡ true → ⊥) → b ≡ false
    off true f = absurd (f refl)
    off false f = refl

-- whether such a row has a bit is told by its bits below n
pub clean_some : (xs : List ℕ) (r n w : ℕ) → CleanRow xs r n w → n ≤ 64 * w → some? (row_bit xs r) (range (64 * w)) ≡ some? (row_bit xs r) (range n)
clean_some xs r n w c h = some_cut (row_bit xs r) n (64 * w) h (λ z l k. clean_past xs r n w z c (omega arith) l)

-- a row that a loop over rows has not come to is as clean as it was
pub clean_ahead : {b s w : ℕ} {f : ℕ → ℕ → Bool} {xs ys : List ℕ} (r n : ℕ) → Made b s w f xs ys → b + s * w ≤ r → CleanRow xs r n w → CleanRow ys r n w
clean_ahead r n m l c t h e = c t h (sym (row_ahead r t m l h) ∙ e)
