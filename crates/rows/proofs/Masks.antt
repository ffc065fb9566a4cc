-- A row made of a test, bit by bit or word by word.
-- Assumes nothing.
use mathlib.Core.Path.{◌≡◌, refl, sym, ap, ap₂, ◌∙◌}
use mathlib.Core.Bool.{Bool, true, false, ◌&&◌, ◌||◌, or-false}
use mathlib.Core.List.{List}
use mathlib.Core.Logic.{⊎_elim}
use Prim.Native.Nat.{ℕ, ◌+◌, ◌*◌, ◌/◌, ◌%◌, ◌^◌, ◌≤◌, ◌<◌}
use native.Mathlib.Nat.{zero-add, eq-or-lt_of_le}
use native.Mathlib.Omega.{arith}
use lib.Bits.{bit_or}
use lib.Dec.{eqb, ltb}
use lib.ListN.{length, get_or, set}
use lib.Seq.{get_or-set_same, get_or-set_other}
use borrow.Author.Tests.{lt-ltb, le-ltb, eq-eqb, ne_eqb}
use Rattle.bits.specs.Bit.{bit_of, with_bit}
use Rattle.bits.proofs.Bits.{bit_zero, bit_of_or, bit_pow}
use Rattle.rows.specs.Kept.{Wrote}
use Rattle.rows.specs.Row.{row_bit, Row, Put, mask_of, Word}
use Rattle.rows.proofs.Words.{kept_refl, kept_trans, kept_set, le_or_lt}
use Rattle.rows.proofs.Rows.{row_is, row_then, row_zero}

and_true : (a : Bool) → a && true ≡ a
and_true true = refl
and_true false = refl

and_false : (a : Bool) → a && false ≡ false
and_false true = refl
and_false false = refl

next_below : (f : ℕ → Bool) (t j : ℕ) → (ltb j t && f j) || (f t && eqb j t) ≡ ltb j (t + 1) && f j
next_below f t j =
    ⊎_elim
    (λ (l : j ≤ t). ⊎_elim (λ (e : j ≡ t). here e) (λ (m : j < t). before m) (eq-or-lt_of_le l))
    (λ (l : t < j). rw (le-ltb j t (omega arith), ne_eqb j t (λ (e : j ≡ t). omega arith), le-ltb j (t + 1) (omega arith)) (and_false (f t)))
    (le_or_lt j t)
  where
    here : j ≡ t → (ltb j t && f j) || (f t && eqb j t) ≡ ltb j (t + 1) && f j
    here e = rw (le-ltb j t (omega arith), eq-eqb j t e, lt-ltb j (t + 1) (omega arith), e) (and_true (f t))

    before : j < t → (ltb j t && f j) || (f t && eqb j t) ≡ ltb j (t + 1) && f j
    before m = rw (lt-ltb j t m, ne_eqb j t (λ (e : j ≡ t). omega arith), lt-ltb j (t + 1) (omega arith), and_false (f t)) (or-false (f j))

-- the row was cleared
pub mask_none : {w : ℕ} {xs ys : List ℕ} (f : ℕ → Bool) → Wrote 0 w (λ j. 0) xs ys → Row 0 w (mask_of f 0) xs ys
unfolding mask_of
mask_none f p = row_is (row_zero p) (λ t h. sym (ap (λ (b : Bool). b && f t) (le-ltb t 0 (omega arith))))

-- one bit more
pub mask_more : {w : ℕ} {xs ys zs : List ℕ} (f : ℕ → Bool) (t : ℕ) (b : Bool) → Row 0 w (mask_of f t) xs ys → b ≡ f t
    → Put 0 t (λ j. row_bit ys 0 j || (b && eqb j t)) ys zs → t / 64 < w → Row 0 w (mask_of f (t + 1)) xs zs
unfolding mask_of
mask_more {w} f t b p e q h = row_is (row_then p (q w h)) (λ j l. rw (p.bit j l, e) (next_below f t j))

-- below n it is the test
pub mask_at : (f : ℕ → Bool) (n t : ℕ) → t < n → mask_of f n t ≡ f t
unfolding mask_of
mask_at f n t h = ap (λ (b : Bool). b && f t) (lt-ltb t n h)

pub mask_past : (f : ℕ → Bool) (n t : ℕ) → n ≤ t → mask_of f n t ≡ false
unfolding mask_of
mask_past f n t h = ap (λ (b : Bool). b && f t) (le-ltb t n h)

-- ---- word by word
pub word_none : (f : ℕ → Bool) → Word f 0 0
word_none f = record { bit = λ j. bit_zero j ∙ sym (mask_past f 0 j (omega arith)) }

-- one bit more of a word: x has it alone, where it passes
pub word_more : {f : ℕ → Bool} {t v : ℕ} (x : ℕ) → Word f t v → ((j : ℕ) → bit_of x j ≡ f t && eqb j t) → Word f (t + 1) (bit_or v x)
unfolding mask_of
word_more {f} {t} {v} x p e = record { bit = λ j. bit_of_or v x j ∙ ap₂ ◌||◌ (p.bit j) (e j) ∙ next_below f t j }

-- bit t passes, or not
pub word_yes : {f : ℕ → Bool} {t v : ℕ} → Word f t v → f t ≡ true → Word f (t + 1) (with_bit v t)
unfolding with_bit
word_yes {t = t} p e = word_more (2 ^ t) p (λ j. rw e (bit_pow t j))

pub word_no : {f : ℕ → Bool} {t v : ℕ} → Word f t v → f t ≡ false → Word f (t + 1) v
unfolding mask_of
word_no {f} {t} p e = record { bit = λ j. p.bit j ∙ sym (or-false (ltb j t && f j)) ∙ rw e at (next_below f t j) }

-- no word yet of a row
pub mask_start : (f : ℕ → Bool) (n : ℕ) (xs : List ℕ) → Row 0 0 (mask_of f n) xs xs
mask_start f n xs = record { kept = kept_refl 0 (0 + 0) xs; bit = λ t h. absurd (omega arith) }

-- one word more of a row
row_word : {i : ℕ} {g : ℕ → Bool} {xs ys : List ℕ} (v : ℕ) → Row 0 i g xs ys → i < length ys → ((j : ℕ) → j < 64 → bit_of v j ≡ g (64 * i + j)) → Row 0 (i + 1) g xs (set ys i v)
unfolding row_bit
row_word {i} {g} {xs} {ys} v p l e =
    record {
      kept = kept_trans p.kept (kept_set ys i v) (omega arith) (omega arith) (omega arith) (omega arith);
      bit = λ t h. ⊎_elim (λ (q : t / 64 ≡ i). here t q) (λ (q : t / 64 < i). before t q) (eq-or-lt_of_le (omega arith));
    }
  where
    here : (t : ℕ) → t / 64 ≡ i → bit_of (get_or (set ys i v) (0 + t / 64) 0) (t % 64) ≡ g t
    here t q =
        let z : 64 * i + t % 64 ≡ t = omega arith in
        ap (λ (k : ℕ). bit_of (get_or (set ys i v) k 0) (t % 64)) (zero-add (t / 64) ∙ q)
        ∙ ap (λ (x : ℕ). bit_of x (t % 64)) (get_or-set_same ys i v 0 l)
        ∙ e (t % 64) (omega arith)
        ∙ ap g z

    before : (t : ℕ) → t / 64 < i → bit_of (get_or (set ys i v) (0 + t / 64) 0) (t % 64) ≡ g t
    before t q = ap (λ (x : ℕ). bit_of x (t % 64)) (get_or-set_other ys i (0 + t / 64) v 0 (λ (z : 0 + t / 64 ≡ i). omega arith)) ∙ p.bit t q

-- the numbers from 64 * i on that are below n, 64 of them at most, make word i
pub mask_word : {n i m v : ℕ} {xs ys : List ℕ} (f : ℕ → Bool) → Row 0 i (mask_of f n) xs ys → Word (λ j. f (64 * i + j)) m v → 64 * i + m ≤ n → (m < 64 → 64 * i + m ≡ n)
    → i < length ys → Row 0 (i + 1) (mask_of f n) xs (set ys i v)
unfolding mask_of
mask_word {n} {i} {m} {v} f p q l last h = row_word v p h (λ j k. q.bit j ∙ ap (λ (b : Bool). b && f (64 * i + j)) (both j k))
  where
    both : (j : ℕ) → j < 64 → ltb j m ≡ ltb (64 * i + j) n
    both j k =
        ⊎_elim
        (λ (g : m ≤ j). le-ltb j m g ∙ sym (le-ltb (64 * i + j) n (omega (arith, last (omega arith)))))
        (λ (g : j < m). lt-ltb j m g ∙ sym (lt-ltb (64 * i + j) n (omega arith)))
        (le_or_lt m j)

-- g is the first number of word i, or n where all numbers are in the words before it
pub record Begins (n i g : ℕ) : Type 0 where
  pub most : g ≤ n
  pub within : g ≤ 64 * i
  pub full : g < n → g ≡ 64 * i

pub begins_more : {n i g m : ℕ} → Begins n i g → m ≤ 64 → g + m ≤ n → (m < 64 → g + m ≡ n) → Begins n (i + 1) (g + m)
begins_more {n} {i} {g} {m} b k l last =
    record {
      most = l;
      within = omega (arith, b.within);
      full = λ h. ⊎_elim (λ (z : 64 ≤ m). omega (arith, b.full (omega arith))) (λ (z : m < 64). absurd (omega (arith, last z))) (le_or_lt 64 m);
    }

-- the numbers from g on make word i
pub mask_from : {n i g m v : ℕ} {xs ys : List ℕ} (f : ℕ → Bool) → Row 0 i (mask_of f n) xs ys → Begins n i g → Word (λ j. f (g + j)) m v → g + m ≤ n → (m < 64 → g + m ≡ n)
    → i < length ys → Row 0 (i + 1) (mask_of f n) xs (set ys i v)
mask_from {n} {i} {g} {m} {v} {xs} {ys} f p b q l last h =
    ⊎_elim
    (λ (e : g ≡ n). row_word v p h (λ j k. q.bit j ∙ mask_past (λ j. f (g + j)) m j (omega arith) ∙ sym (mask_past f n (64 * i + j) (omega (arith, b.within)))))
    (λ (k : g < n). let e = b.full k in mask_word f p (rw e at q) (rw e at l) (rw e at last) h)
    (eq-or-lt_of_le b.most)
