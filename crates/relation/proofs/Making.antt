-- Loops that make a relation row by row: what holds at the loop's head, and how it goes on.
-- Assumes nothing.
use mathlib.Core.Path.{◌≡◌, refl, ap, ◌∙◌}
use mathlib.Core.Bool.{Bool, false}
use mathlib.Core.List.{List}
use mathlib.Core.Logic.{inl, ⊎_elim}
use Prim.Native.Nat.{ℕ, ◌+◌, ◌*◌, ◌/◌, ◌%◌, ◌≤◌, ◌<◌}
use native.Mathlib.Nat.{add_assoc, suc-mul, mul-le-mul_right, eq-or-lt_of_le}
use native.Mathlib.Numerals.{add-one}
use native.Mathlib.Omega.{arith}
use Rattle.bits.specs.Bit.{bit_of}
use Rattle.bits.proofs.Bits.{bit_zero}
use Rattle.rows.specs.Kept.{Wrote}
use Rattle.rows.specs.Row.{row_bit, Row}
use Rattle.rows.proofs.Words.{kept_refl, kept_trans}
use Rattle.rows.proofs.Rows.{kept_bit}
use Rattle.relation.specs.Pairs.{pair_at, Made}

pub row_next : (s w : ℕ) → (s + 1) * w ≡ s * w + w
row_next s w = rw add-one (suc-mul s w)

-- a row ends where a later one starts, or before
pub row_le : {s n : ℕ} (w : ℕ) → s < n → s * w + w ≤ n * w
row_le {s} {n} w h = rw suc-mul at (mul-le-mul_right w h)

-- a turn of a loop that makes a relation row by row
pub made_more : {b s w : ℕ} {f : ℕ → ℕ → Bool} {xs ys zs : List ℕ} → Made b s w f xs ys → Row (b + s * w) w (f s) ys zs → Made b (s + 1) w f xs zs
made_more {b} {s} {w} {f} {xs} {ys} {zs} p r =
    let e = row_next s w in
    record {
      kept = kept_trans p.kept r.kept (omega arith) (omega arith) (omega arith) (omega arith);
      pair = λ i t h l. ⊎_elim (λ q. rw q (r.bit t l)) (λ q. kept_bit (b + i * w) w t r.kept (inl (omega (arith, row_le w q))) l ∙ p.pair i t q l) (eq-or-lt_of_le (omega arith));
    }

pub made_same : (b n w : ℕ) (xs : List ℕ) → Made b n w (pair_at xs b w) xs xs
made_same b n w xs = record { kept = kept_refl _ _ xs; pair = λ s t h l. refl }

pub made_then : {b n w : ℕ} {f g : ℕ → ℕ → Bool} {xs ys zs : List ℕ} → Made b n w f xs ys → Made b n w g ys zs → Made b n w g xs zs
made_then p q = record { kept = kept_trans p.kept q.kept (omega arith) (omega arith) (omega arith) (omega arith); pair = q.pair }

pub made_is : {b n w : ℕ} {f g : ℕ → ℕ → Bool} {xs ys : List ℕ} → Made b n w f xs ys → ((s t : ℕ) → s < n → t / 64 < w → f s t ≡ g s t) → Made b n w g xs ys
made_is p e = record { kept = p.kept; pair = λ s t h l. p.pair s t h l ∙ e s t h l }

-- a relation whose words are 0 has no pair
pub made_clear : {b n w : ℕ} {xs ys : List ℕ} → Wrote b (n * w) (λ j. 0) xs ys → Made b n w (λ s t. false) xs ys
unfolding row_bit
made_clear {b} {n} {w} p = record {
  kept = p.kept;
  pair = λ s t h l. ap (λ (x : ℕ). bit_of x (t % 64)) (rw (add_assoc b (s * w) (t / 64)) (p.word (s * w + t / 64) (omega (arith, row_le w h)))) ∙ bit_zero (t % 64);
}

-- ---- a relation made as one row of all its words
-- bit t of the row k words on
pub row_shift : (xs : List ℕ) (b k t : ℕ) → row_bit xs (b + k) t ≡ row_bit xs b (64 * k + t)
unfolding row_bit
row_shift xs b k t =
    let d : (64 * k + t) / 64 ≡ k + t / 64 = omega arith in
    let e : (64 * k + t) % 64 ≡ t % 64 = omega arith in
    rw (d, e, add_assoc b k (t / 64))

pub made_whole : {b n w : ℕ} {g : ℕ → Bool} {f : ℕ → ℕ → Bool} {xs ys : List ℕ} → Row b (n * w) g xs ys → ((s t : ℕ) → g (64 * (s * w) + t) ≡ f s t) → Made b n w f xs ys
made_whole {b} {w = w} {ys = ys} r e = record {
  kept = r.kept;
  pair = λ s t h l. row_shift ys b (s * w) t ∙ r.bit (64 * (s * w) + t) (let k = row_le w h in omega arith) ∙ e s t;
}
