-- The union of a row's words, which is 0 where each of them is.
-- Assumes nothing.
use mathlib.Core.Path.{◌≡◌, sym, ap, ◌∙◌}
use mathlib.Core.Bool.{true, false, not}
use mathlib.Core.List.{List}
use mathlib.Core.Logic.{⊎_elim}
use Prim.Native.Nat.{ℕ, ◌+◌, ◌*◌, ◌/◌, ◌%◌, ◌^◌, ◌<◌}
use native.Mathlib.Omega.{arith}
use borrow.Author.Count.{below_more}
use borrow.Author.Tests.{eq-eqb, ne_eqb}
use lib.Bits.{bit_or, or_add_and, and_le_l, and_le_r}
use lib.Dec.{eqb}
use lib.ListN.{get_or}
use Rattle.theory.specs.Lists.{some?, range}
use Rattle.bits.specs.Bit.{bit_of}
use Rattle.bits.proofs.Bits.{bit_zero, some_bit}
use Rattle.rows.specs.Row.{row_bit}
use Rattle.rows.proofs.Ranges.{some_none, some_one}
use Rattle.rows.proofs.Rows.{eq_or_ne}

-- v is the union of the words g 0 to g (j - 1)
pub record Folded (g : ℕ → ℕ) (j v : ℕ) : Type 0 where
  pub none : v ≡ 0 → (i : ℕ) → i < j → g i ≡ 0
  pub some : (v ≡ 0 → ⊥) → (i : ℕ) × (i < j) × (g i < 2 ^ 64) × (g i ≡ 0 → ⊥)

-- a union is 0 where both are: with what they share it is their sum, and they share no more than each has
left_zero : (a b : ℕ) → bit_or a b ≡ 0 → a ≡ 0
left_zero a b e = omega (arith, or_add_and a b, and_le_r a b)

right_zero : (a b : ℕ) → bit_or a b ≡ 0 → b ≡ 0
right_zero a b e = omega (arith, or_add_and a b, and_le_l a b)

-- one word more
pub folded_more : (g : ℕ → ℕ) (j v : ℕ) → Folded g j v → g j < 2 ^ 64 → Folded g (j + 1) (bit_or v (g j))
folded_more g j v f l =
    record {
      none = λ e. below_more (λ i. g i ≡ 0) j (f.none (left_zero v (g j) e)) (right_zero v (g j) e);
      some = λ n. ⊎_elim
          (λ e. (j, omega arith, l, λ z. n (ap (λ (a : ℕ). bit_or a (g j)) e ∙ z)))
          (λ m. let p = f.some m in (p.0, omega (arith, p.1), p.2, p.3))
          (eq_or_ne v 0);
    }

-- ---- of a row
abbrev pub row_words : List ℕ → ℕ → ℕ → ℕ
row_words xs r i = get_or xs (r + i) 0

-- it has no bit if its words are 0, and one if some word is not
module _ (xs : List ℕ) (r w : ℕ) where
  row_none : ((j : ℕ) → j < w → row_words xs r j ≡ 0) → some? (row_bit xs r) (range (64 * w)) ≡ false
  unfolding row_bit
  row_none e = some_none (row_bit xs r) (64 * w) (λ t h. ap (λ (x : ℕ). bit_of x (t % 64)) (e (t / 64) (omega arith)) ∙ bit_zero (t % 64))

  row_some : (j : ℕ) → j < w → row_words xs r j < 2 ^ 64 → (row_words xs r j ≡ 0 → ⊥) → some? (row_bit xs r) (range (64 * w)) ≡ true
  unfolding row_bit
  row_some j h l n =
      let b = some_bit 64 (row_words xs r j) l n in
      let lt = b.1 in
      let d : (64 * j + b.0) / 64 ≡ j = omega arith in
      let m : (64 * j + b.0) % 64 ≡ b.0 = omega arith in
      some_one (row_bit xs r) (64 * w) (64 * j + b.0) (omega arith) (rw (d, m) b.2)

-- the row has a bit where the union has one
pub folded_any : {n v : ℕ} (xs : List ℕ) (r w : ℕ) → Folded (row_words xs r) n v → n ≡ w → not (eqb v 0) ≡ some? (row_bit xs r) (range (64 * w))
folded_any {v = v} xs r w p q =
    ⊎_elim
    (λ e. ap not (eq-eqb v 0 e) ∙ sym (row_none xs r w (λ j h. p.none e j (omega arith))))
    (λ m. let y = p.some m in let lt = y.1 in ap not (ne_eqb v 0 m) ∙ sym (row_some xs r w y.0 (omega arith) y.2 y.3))
    (eq_or_ne v 0)
