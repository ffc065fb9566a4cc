-- One row written, and one pair more.
-- Assumes nothing.
use mathlib.Core.Path.{◌≡◌, sym}
use mathlib.Core.Bool.{Bool, cond, ◌&&◌, ◌||◌, or-false}
use mathlib.Core.List.{List}
use mathlib.Core.Logic.{◌⊎◌, inl, inr, ⊎_elim}
use Prim.Native.Nat.{ℕ, ◌+◌, ◌*◌, ◌/◌, ◌≤◌, ◌<◌}
use native.Mathlib.Nat.{eq-or-lt_of_le}
use native.Mathlib.Omega.{arith}
use lib.Dec.{eqb}
use borrow.Author.Tests.{eq-eqb, ne_eqb}
use Rattle.rows.specs.Row.{row_bit, Row}
use Rattle.rows.proofs.Words.{kept_in, le_or_lt}
use Rattle.rows.proofs.Rows.{kept_bit, eq_or_ne}
use Rattle.relation.specs.Pairs.{pair_at, Made}
use Rattle.relation.proofs.Making.{row_le, made_is}

-- one row was written
pub made_row : {b n s w : ℕ} {g : ℕ → Bool} {xs ys : List ℕ} → Row (b + s * w) w g xs ys → s < n → Made b n w (λ i j. cond (eqb i s) (g j) (pair_at xs b w i j)) xs ys
made_row {b} {n} {s} {w} {g} {xs} {ys} r hs =
    record {
      kept = kept_in r.kept (omega arith) (omega (arith, row_le w hs));
      pair = λ i j h l. ⊎_elim
          (λ (m : i ≤ s). ⊎_elim (λ (e : i ≡ s). rw (eq-eqb i s e, e) (r.bit j l)) (λ (m : i < s). other i j l (λ (e : i ≡ s). omega arith) (inl (omega (arith, row_le w m)))) (eq-or-lt_of_le m))
          (λ (m : s < i). other i j l (λ (e : i ≡ s). omega arith) (inr (omega (arith, row_le w m))))
          (le_or_lt i s);
    }
  where
    other : (i j : ℕ) → j / 64 < w → (i ≡ s → ⊥) → (b + i * w + w ≤ b + s * w) ⊎ (b + s * w + w ≤ b + i * w) → pair_at ys b w i j ≡ cond (eqb i s) (g j) (pair_at xs b w i j)
    other i j l n out = rw (ne_eqb i s n) (kept_bit (b + i * w) w j r.kept out l)

-- one pair more
pub made_pair : {b n s w : ℕ} {xs ys : List ℕ} (t : ℕ) → Row (b + s * w) w (λ j. row_bit xs (b + s * w) j || eqb j t) xs ys → s < n
    → Made b n w (λ i j. pair_at xs b w i j || (eqb i s && eqb j t)) xs ys
made_pair {b} {n} {s} {w} {xs} {ys} t r hs = made_is (made_row r hs) (λ i j h l. ⊎_elim (same i j) (other i j) (eq_or_ne i s))
  where
    same : (i j : ℕ) → i ≡ s → cond (eqb i s) (row_bit xs (b + s * w) j || eqb j t) (pair_at xs b w i j) ≡ pair_at xs b w i j || (eqb i s && eqb j t)
    same i j e = rw (eq-eqb i s e, e)

    other : (i j : ℕ) → (i ≡ s → ⊥) → cond (eqb i s) (row_bit xs (b + s * w) j || eqb j t) (pair_at xs b w i j) ≡ pair_at xs b w i j || (eqb i s && eqb j t)
    other i j n = rw (ne_eqb i s n) (sym (or-false (pair_at xs b w i j)))
