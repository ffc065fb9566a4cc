-- The words of an answer: where each pair's bit stands, that nothing else is set, and that more pairs have more bits.
-- Assumes nothing.
use mathlib.Core.Path.{◌≡◌, refl, sym, ap, ap₂, ◌∙◌, subst}
use mathlib.Core.Bool.{Bool, true, false, ◌&&◌, cond}
use mathlib.Core.List.{List, [], ◌∷◌, ◌++◌}
use Prim.Native.Nat.{ℕ, zero, suc, ◌+◌, ◌*◌, ◌/◌, ◌%◌, ◌^◌, ◌<◌}
use native.Mathlib.Nat.{add-zero, zero-add, add-suc, suc-add, suc-mul, zero-mul, pow-suc}
use native.Mathlib.Omega.{arith}
use lib.Dec.{T, ltb, leb-zero, leb-suc-zero, leb-suc-suc}
use borrow.Author.Tests.{lt-ltb}
use lib.ListN.{length, get_or, length-append, get_or-append}
use lib.Seq.{get_or-append-add}
use Rattle.bits.specs.Bit.{bit_of}
use Rattle.bits.proofs.Bits.{bit_zero, bit_low_one, bit_low_zero, bit_suc}
use Rattle.theory.specs.Lists.{concat_map, tabulate}
use Rattle.theory.specs.Words.{row_words, packed, row_of, answer_words, Subset}
use Rattle.theory.proofs.Tests.{and_left, and_right, and_both}
use Rattle.theory.proofs.Lists.{tabulate_at, length_tabulate}

-- ---- one word
module _ (f : ℕ → Bool) where
  -- bit j of the word that begins with f at i
  pub packed_bit : (i k j : ℕ) → bit_of (packed f i k) j ≡ ltb j k && f (i + j)
  packed_bit i zero j = bit_zero j ∙ sym (ap (λ b. b && f (i + j)) (leb-suc-zero j))
  packed_bit i (suc k) zero = low (f i) refl ∙ ap f (sym (add-zero i)) ∙ sym (ap (λ b. b && f (i + 0)) (leb-suc-suc 0 k ∙ leb-zero k))
    where
      low : (b : Bool) → f i ≡ b → bit_of (cond (f i) 1 0 + 2 * packed f (suc i) k) 0 ≡ f i
      low true e = rw e (bit_low_one (1 + 2 * packed f (suc i) k) (omega arith))
      low false e = rw e (bit_low_zero (0 + 2 * packed f (suc i) k) (omega arith))
  packed_bit i (suc k) (suc j) =
      bit_suc (cond (f i) 1 0 + 2 * packed f (suc i) k) j
      ∙ ap (λ x. bit_of x j) (half (f i))
      ∙ packed_bit (suc i) k j
      ∙ ap₂ ◌&&◌ (sym (leb-suc-suc (suc j) k)) (ap f (suc-add i j ∙ sym (add-suc i j)))
    where
      half : (b : Bool) → (cond b 1 0 + 2 * packed f (suc i) k) / 2 ≡ packed f (suc i) k
      half true = omega arith
      half false = omega arith

  pub packed_fits : (i k : ℕ) → packed f i k < 2 ^ k
  packed_fits i zero = omega arith
  packed_fits i (suc k) = below (f i) (packed_fits (suc i) k)
    where
      below : (b : Bool) → packed f (suc i) k < 2 ^ k → cond b 1 0 + 2 * packed f (suc i) k < 2 ^ suc k
      below true h = omega (arith, pow-suc 2 k)
      below false h = omega (arith, pow-suc 2 k)

-- ---- rows of W words, one after the other
module _ (g : ℕ → List ℕ) (w : ℕ) (wide : (s : ℕ) → length (g s) ≡ w) where
  rows_length : (i n : ℕ) → length (concat_map g (tabulate (λ k. k) i n)) ≡ n * w
  rows_length i zero = sym (zero-mul w)
  rows_length i (suc n) =
      length-append (g i) (concat_map g (tabulate (λ k. k) (suc i) n)) ∙ omega (arith, wide i, rows_length (suc i) n, suc-mul n w)

  rows_at : (i n s j : ℕ) → s < n → j < w → get_or (concat_map g (tabulate (λ k. k) i n)) (s * w + j) 0 ≡ get_or (g (i + s)) j 0
  rows_at i zero s j h l = absurd (omega arith)
  rows_at i (suc n) zero j h l =
      rw (zero-mul w, zero-add j, add-zero i) (get_or-append (g i) (concat_map g (tabulate (λ k. k) (suc i) n)) 0 j (omega (arith, wide i)))
  rows_at i (suc n) (suc s) j h l =
      let e : suc s * w + j ≡ length (g i) + (s * w + j) = omega (arith, suc-mul s w, wide i) in
      ap (λ k. get_or (concat_map g (tabulate (λ k. k) i (suc n))) k 0) e
      ∙ get_or-append-add (g i) (concat_map g (tabulate (λ k. k) (suc i) n)) (s * w + j) 0
      ∙ rows_at (suc i) n s j (omega arith) l
      ∙ ap (λ k. get_or (g k) j 0) (suc-add i s ∙ sym (add-suc i s))

-- ---- an answer
module _ (n : ℕ) (f : ℕ → ℕ → Bool) where
  abbrev W : ℕ
  W = row_words n

  row_wide : (s : ℕ) → length (row_of n (f s)) ≡ W
  row_wide s = length_tabulate (λ w. packed (λ t. ltb t n && f s t) (64 * w) 64) 0 W

  -- N × W words
  pub words_length : length (answer_words n f) ≡ n * W
  unfolding answer_words
  words_length = rows_length (λ s. row_of n (f s)) W row_wide 0 n

  pub word_at : (s w : ℕ) → s < n → w < W → get_or (answer_words n f) (s * W + w) 0 ≡ packed (λ t. ltb t n && f s t) (64 * w) 64
  unfolding answer_words
  word_at s w h l =
      rows_at (λ s. row_of n (f s)) W row_wide 0 n s w h l
      ∙ ap (λ k. get_or (row_of n (f k)) w 0) (zero-add s)
      ∙ tabulate_at (λ w. packed (λ t. ltb t n && f s t) (64 * w) 64) 0 W w 0 l
      ∙ ap (λ k. packed (λ t. ltb t n && f s t) (64 * k) 64) (zero-add w)

  -- a word of the machine
  pub word_fits : (s w : ℕ) → s < n → w < W → get_or (answer_words n f) (s * W + w) 0 < 2 ^ 64
  word_fits s w h l = subst (λ x. x < 2 ^ 64) (sym (word_at s w h l)) (packed_fits (λ t. ltb t n && f s t) (64 * w) 64)

  -- bit t mod 64 of word s × W + t div 64 is the pair (s, t); bits for t of N or more are 0
  pub answer_bit : (s t : ℕ) → s < n → t / 64 < W → bit_of (get_or (answer_words n f) (s * W + t / 64) 0) (t % 64) ≡ ltb t n && f s t
  answer_bit s t h l =
      let e : 64 * (t / 64) + t % 64 ≡ t = omega arith in
      let b : ltb (t % 64) 64 ≡ true = lt-ltb (t % 64) 64 (omega arith) in
      ap (λ x. bit_of x (t % 64)) (word_at s (t / 64) h l)
      ∙ packed_bit (λ t. ltb t n && f s t) (64 * (t / 64)) 64 (t % 64)
      ∙ ap (λ x. x && (ltb (64 * (t / 64) + t % 64) n && f s (64 * (t / 64) + t % 64))) b
      ∙ ap (λ k. ltb k n && f s k) e

-- ---- more pairs, more bits
cons_subset : (x x' : ℕ) (xs xs' : List ℕ) → ((j : ℕ) → T (bit_of x j) → T (bit_of x' j)) → Subset xs xs' → Subset (x ∷ xs) (x' ∷ xs')
cons_subset x x' xs xs' p q zero j t = p j t
cons_subset x x' xs xs' p q (suc k) j t = q k j t

append_subset : (xs xs' ys ys' : List ℕ) → length xs ≡ length xs' → Subset xs xs' → Subset ys ys' → Subset (xs ++ ys) (xs' ++ ys')
append_subset [] [] ys ys' e p q = q
append_subset [] (x' ∷ xs') ys ys' e p q = absurd (omega arith)
append_subset (x ∷ xs) [] ys ys' e p q = absurd (omega arith)
append_subset (x ∷ xs) (x' ∷ xs') ys ys' e p q = cons_subset x x' (xs ++ ys) (xs' ++ ys') (λ j. p 0 j) (append_subset xs xs' ys ys' (omega arith) (λ i. p (suc i)) q)

module _ (f g : ℕ → ℕ) (sub : (i j : ℕ) → T (bit_of (f i) j) → T (bit_of (g i) j)) where
  tabulate_subset : (i n : ℕ) → Subset (tabulate f i n) (tabulate g i n)
  tabulate_subset i zero = λ k j t. t
  tabulate_subset i (suc n) = cons_subset (f i) (g i) (tabulate f (suc i) n) (tabulate g (suc i) n) (sub i) (tabulate_subset (suc i) n)

module _ (g h : ℕ → List ℕ) (long : (s : ℕ) → length (g s) ≡ length (h s)) (sub : (s : ℕ) → Subset (g s) (h s)) where
  rows_subset : (i n : ℕ) → Subset (concat_map g (tabulate (λ k. k) i n)) (concat_map h (tabulate (λ k. k) i n))
  rows_subset i zero = λ k j t. t
  rows_subset i (suc n) =
      append_subset (g i) (h i) (concat_map g (tabulate (λ k. k) (suc i) n)) (concat_map h (tabulate (λ k. k) (suc i) n)) (long i) (sub i) (rows_subset (suc i) n)

module _ (n : ℕ) (f g : ℕ → ℕ → Bool) (sub : (s t : ℕ) → T (f s t) → T (g s t)) where
  below_sub : (s t : ℕ) → T (ltb t n && f s t) → T (ltb t n && g s t)
  below_sub s t h = and_both (ltb t n) (g s t) (and_left (ltb t n) (f s t) h) (sub s t (and_right (ltb t n) (f s t) h))

  word_sub : (s w j : ℕ) → T (bit_of (packed (λ t. ltb t n && f s t) (64 * w) 64) j) → T (bit_of (packed (λ t. ltb t n && g s t) (64 * w) 64) j)
  word_sub s w j h =
      let u = subst T (packed_bit (λ t. ltb t n && f s t) (64 * w) 64 j) h in
      let a = and_left (ltb j 64) (ltb (64 * w + j) n && f s (64 * w + j)) u in
      let b = and_right (ltb j 64) (ltb (64 * w + j) n && f s (64 * w + j)) u in
      subst T (sym (packed_bit (λ t. ltb t n && g s t) (64 * w) 64 j)) (and_both (ltb j 64) (ltb (64 * w + j) n && g s (64 * w + j)) a (below_sub s (64 * w + j) b))

  pub words_subset : Subset (answer_words n f) (answer_words n g)
  unfolding answer_words
  words_subset =
      rows_subset (λ s. row_of n (f s)) (λ s. row_of n (g s)) (λ s. row_wide n f s ∙ sym (row_wide n g s))
      (λ s. tabulate_subset (λ w. packed (λ t. ltb t n && f s t) (64 * w) 64) (λ w. packed (λ t. ltb t n && g s t) (64 * w) 64) (word_sub s) 0 (row_words n)) 0 n
