-- Rows of bits: what a loop over words says of the bits, and changes of a row one after another.
-- Assumes nothing.
use mathlib.Core.Path.{◌≡◌, refl, sym, ap, ◌∙◌}
use mathlib.Core.Bool.{Bool, true, false, ◌&&◌, ◌||◌, not, and-true, or-false}
use mathlib.Core.List.{List}
use mathlib.Core.Logic.{◌⊎◌, inl, inr, ⊎_elim}
use Prim.Native.Nat.{ℕ, ◌+◌, ◌/◌, ◌%◌, ◌^◌, ◌≤◌, ◌<◌}
use native.Mathlib.Omega.{arith}
use native.Mathlib.Nat.{zero-add, eq-or-lt_of_le}
use lib.Bits.{bit_or, bit_and}
use lib.Dec.{eqb}
use lib.ListN.{length, get_or, set}
use lib.Seq.{get_or-set_same, get_or-set_other}
use borrow.Author.Tests.{eq-eqb, ne_eqb}
use Rattle.bits.specs.Bit.{bit_of, with_bit, without}
use Rattle.bits.proofs.Bits.{bit_zero, bit_of_or, bit_of_and, bit_pow, bit_with, bit_without}
use Rattle.rows.specs.Kept.{Kept, Wrote}
use Rattle.rows.specs.Row.{row_bit, Row, Put}
use Rattle.rows.proofs.Words.{kept_refl, kept_trans, kept_in, kept_set, le_or_lt}

-- a row that lies outside what changed is as it was
pub kept_bit : {lo hi : ℕ} {xs ys : List ℕ} (r w t : ℕ) → Kept lo hi xs ys → (r + w ≤ lo) ⊎ (hi ≤ r) → t / 64 < w → row_bit ys r t ≡ row_bit xs r t
unfolding row_bit
kept_bit r w t p out h = ap (λ (x : ℕ). bit_of x (t % 64)) (⊎_elim (λ l. p.below (r + t / 64) (omega arith)) (λ l. p.above (r + t / 64) (omega arith)) out)

-- ---- one change, and another
-- the same row, described otherwise
pub row_is : {d w : ℕ} {g h : ℕ → Bool} {xs ys : List ℕ} → Row d w g xs ys → ((t : ℕ) → t / 64 < w → g t ≡ h t) → Row d w h xs ys
row_is p e = record { kept = p.kept; bit = λ t l. p.bit t l ∙ e t l }

pub row_same : (d w : ℕ) (xs : List ℕ) → Row d w (row_bit xs d) xs xs
row_same d w xs = record { kept = kept_refl d (d + w) xs; bit = λ t h. refl }

pub row_then : {d w : ℕ} {g h : ℕ → Bool} {xs ys zs : List ℕ} → Row d w g xs ys → Row d w h ys zs → Row d w h xs zs
row_then p q = record { kept = kept_trans p.kept q.kept (omega arith) (omega arith) (omega arith) (omega arith); bit = q.bit }

-- the row as it stands after a change
pub row_now : {d w : ℕ} {g : ℕ → Bool} {xs ys : List ℕ} → Row d w g xs ys → Row d w g ys ys
row_now {d} {w} {ys = ys} p = record { kept = kept_refl d (d + w) ys; bit = p.bit }

-- ---- from words to bits
module _ {d w : ℕ} {xs ys : List ℕ} where
  pub row_zero : Wrote d w (λ j. 0) xs ys → Row d w (λ t. false) xs ys
  unfolding row_bit
  row_zero p = record { kept = p.kept; bit = λ t h. ap (λ (x : ℕ). bit_of x (t % 64)) (p.word (t / 64) h) ∙ bit_zero (t % 64) }

module _ {d w : ℕ} {xs ys : List ℕ} (rs : List ℕ) (s : ℕ) where
  -- of words that merge as their bits do
  pub row_merged : (word : ℕ → ℕ → ℕ) (bit : Bool → Bool → Bool) → ((x y k : ℕ) → bit_of (word x y) k ≡ bit (bit_of x k) (bit_of y k))
      → Wrote d w (λ j. word (get_or xs (d + j) 0) (get_or rs (s + j) 0)) xs ys → Row d w (λ t. bit (row_bit xs d t) (row_bit rs s t)) xs ys
  unfolding row_bit
  row_merged word bit law p = record {
    kept = p.kept;
    bit = λ t h. ap (λ (x : ℕ). bit_of x (t % 64)) (p.word (t / 64) h) ∙ law (get_or xs (d + t / 64) 0) (get_or rs (s + t / 64) 0) (t % 64);
  }

  pub row_masked : (ms : List ℕ) → Wrote d w (λ j. bit_or (get_or xs (d + j) 0) (bit_and (get_or rs (s + j) 0) (get_or ms j 0))) xs ys
      → Row d w (λ t. row_bit xs d t || (row_bit rs s t && row_bit ms 0 t)) xs ys
  unfolding row_bit
  row_masked ms p = record {
    kept = p.kept;
    bit = λ t h.
        ap (λ (x : ℕ). bit_of x (t % 64)) (p.word (t / 64) h)
        ∙ bit_of_or (get_or xs (d + t / 64) 0) (bit_and (get_or rs (s + t / 64) 0) (get_or ms (t / 64) 0)) (t % 64)
        ∙ ap (λ (b : Bool). bit_of (get_or xs (d + t / 64) 0) (t % 64) || b) (bit_of_and (get_or rs (s + t / 64) 0) (get_or ms (t / 64) 0) (t % 64) ∙ rw (zero-add (t / 64)));
  }

-- ---- one bit
pub eq_or_ne : (a b : ℕ) → (a ≡ b) ⊎ (a ≡ b → ⊥)
eq_or_ne a b = ⊎_elim (λ l. ⊎_elim inl (λ m. inr (omega arith)) (eq-or-lt_of_le l)) (λ l. inr (omega arith)) (le_or_lt a b)

-- two tests that hold together
eqb_same : (a b c d : ℕ) → (a ≡ b → c ≡ d) → (c ≡ d → a ≡ b) → eqb a b ≡ eqb c d
eqb_same a b c d f g = ⊎_elim (λ e. eq-eqb a b e ∙ sym (eq-eqb c d (f e))) (λ n. ne_eqb a b n ∙ sym (ne_eqb c d (λ e. n (g e)))) (eq_or_ne a b)

-- word t / 64 of the row at d changes in bit t % 64 alone
put_word : (xs : List ℕ) (d t v : ℕ) (h : Bool → Bool → Bool) → ((x : Bool) → h x false ≡ x) → d + t / 64 < length xs
    → ((j : ℕ) → bit_of v j ≡ h (bit_of (get_or xs (d + t / 64) 0) j) (eqb j (t % 64))) → Put d t (λ j. h (row_bit xs d j) (eqb j t)) xs (set xs (d + t / 64) v)
unfolding row_bit
put_word xs d t v h z l e w k =
    record {
      kept = kept_in (kept_set xs (d + t / 64) v) (omega arith) (omega arith);
      bit = λ j m. ⊎_elim
          (λ q. rw (q, get_or-set_same xs (d + t / 64) v 0 l, eqb_same j t (j % 64) (t % 64) (λ p. ap (λ (x : ℕ). x % 64) p) (λ p. omega arith)) (e (j % 64)))
          (λ n. rw (get_or-set_other xs (d + t / 64) (d + j / 64) v 0 (λ p. n (omega arith)), ne_eqb j t (λ p. n (ap (λ (x : ℕ). x / 64) p))) (sym (z _)))
          (eq_or_ne (j / 64) (t / 64));
    }

-- it is set
pub put_bit : (xs : List ℕ) (d t v : ℕ) → d + t / 64 < length xs → v ≡ with_bit (get_or xs (d + t / 64) 0) (t % 64) → Put d t (λ j. row_bit xs d j || eqb j t) xs (set xs (d + t / 64) v)
put_bit xs d t v l e = put_word xs d t v ◌||◌ or-false l (λ j. rw e (bit_with (get_or xs (d + t / 64) 0) (t % 64) j))

-- it is cleared
pub put_none : (xs : List ℕ) (d t v : ℕ) → d + t / 64 < length xs → v ≡ without (get_or xs (d + t / 64) 0) (2 ^ (t % 64)) → Put d t (λ j. row_bit xs d j && not (eqb j t)) xs (set xs (d + t / 64) v)
put_none xs d t v l e = put_word xs d t v (λ x y. x && not y) and-true l (λ j. rw (e, bit_without (get_or xs (d + t / 64) 0) (2 ^ (t % 64)) j, bit_pow (t % 64) j))

pub put_yes : {b : Bool} {xs ys : List ℕ} (t : ℕ) → Put 0 t (λ j. row_bit xs 0 j || eqb j t) xs ys → b ≡ true → Put 0 t (λ j. row_bit xs 0 j || (b && eqb j t)) xs ys
put_yes t p e w h = rw e (p w h)
