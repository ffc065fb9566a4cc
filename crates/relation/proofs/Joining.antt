-- The join, row by row: a row takes in the rows that another row and the mask name, word by word, and bit by bit of a word.
-- Assumes nothing.
use mathlib.Core.Path.{◌≡◌, refl, sym, ap, ap₂, ◌∙◌}
use mathlib.Core.Bool.{Bool, true, false, ◌&&◌, ◌||◌, or-false, or_assoc, false≢true}
use mathlib.Core.List.{List}
use mathlib.Core.Logic.{⊎_elim}
use Prim.Native.Nat.{ℕ, ◌+◌, ◌*◌, ◌/◌, ◌%◌, ◌^◌, ◌≤◌, ◌<◌}
use native.Mathlib.Numerals.{add-one}
use native.Mathlib.Omega.{arith}
use lib.Bits.{bit_and}
use lib.ListN.{get_or, replicate, get_or-replicate}
use Rattle.bits.specs.Bit.{bit_of}
use Rattle.bits.proofs.Bits.{bit_zero, bit_high, bit_of_and}
use Rattle.theory.specs.Lists.{some?, range}
use Rattle.theory.specs.Evaluation.{join?}
use Rattle.theory.proofs.Tests.{and_left, of_true, to_true}
use Rattle.rows.specs.Row.{row_bit, Row}
use Rattle.rows.proofs.Words.{le_or_lt}
use Rattle.rows.proofs.Ranges.{some_suc, some_same, some_none, some_no, some_add, some_cut}
use Rattle.rows.proofs.Rows.{row_is, row_then, row_same}
use Rattle.rows.proofs.BitLists.{Next}
use Rattle.relation.specs.Pairs.{pair_at, Made, CleanRow, taken, taken_row}
use Rattle.relation.proofs.Combining.{row_ahead}
use Rattle.relation.proofs.Clean.{clean_past}
use Rattle.relation.proofs.Making.{row_le, made_more}

-- t is reached through g + i, for a bit i of v; through z, which the row at d of fs and the one at m of the mask have
abbrev by_bit : List ℕ → ℕ → ℕ → ℕ → ℕ → ℕ → ℕ → Bool
by_bit xs q w g v t i = bit_of v i && pair_at xs q w (g + i) t

abbrev by_row : List ℕ → ℕ → List ℕ → ℕ → ℕ → List ℕ → ℕ → ℕ → ℕ → Bool
by_row fs d xs q w ms m t z = row_bit fs d z && (pair_at xs q w z t && row_bit ms m z)

-- ---- the bits of one word v, which stand for the records from g on
-- a bit that is set lies below the width
pub bit_below : (w v i : ℕ) → v < 2 ^ w → bit_of v i ≡ true → i < w
bit_below w v i h e = ⊎_elim (λ (l : w ≤ i). absurd (false≢true (sym (bit_high w v i h l) ∙ e))) (λ (l : i < w). l) (le_or_lt w i)

-- the row that a bit stands for is one of the relation's
pub bit_row : {v p k n : ℕ} (g w : ℕ) → Next v p k → ((i : ℕ) → bit_of v i ≡ true → g + i < n) → (g + k < n) × ((g + k) * w + w ≤ n * w)
bit_row g w x c = (c _ x.here, row_le w (c _ x.here))

pub word_none : (rs xs : List ℕ) (q w g v : ℕ) → Row 0 w (taken rs xs q w g v 0) rs rs
unfolding taken
word_none rs xs q w g v = row_is (row_same 0 w rs) (λ t h. sym (or-false (row_bit rs 0 t)))

-- the row took in row g + k
pub word_more : {rs ys zs : List ℕ} {v p k : ℕ} (xs : List ℕ) (q w g : ℕ) → Row 0 w (taken rs xs q w g v p) rs ys → Next v p k
    → Row 0 w (λ t. row_bit ys 0 t || pair_at xs q w (g + k) t) ys zs → Row 0 w (taken rs xs q w g v (k + 1)) rs zs
unfolding taken
word_more {rs} {v = v} {p} {k} xs q w g r x o =
    row_is (row_then r o) (λ t h.
    ap (λ (b : Bool). b || pair_at xs q w (g + k) t) (r.bit t h)
    ∙ or_assoc (row_bit rs 0 t) (some? (by_bit xs q w g v t) (range p)) (pair_at xs q w (g + k) t)
    ∙ ap (λ (b : Bool). row_bit rs 0 t || b) (sym (grown t)))
  where
    skipped : (t i : ℕ) → p ≤ i → i < k → by_bit xs q w g v t i ≡ false
    skipped t i a b = ap (λ (c : Bool). c && pair_at xs q w (g + i) t) (x.below i a b)

    grown : (t : ℕ) → some? (by_bit xs q w g v t) (range (k + 1)) ≡ some? (by_bit xs q w g v t) (range p) || pair_at xs q w (g + k) t
    grown t =
        ap (λ (m : ℕ). some? (by_bit xs q w g v t) (range m)) (add-one k)
        ∙ some_suc (by_bit xs q w g v t) k
        ∙ ap₂ ◌||◌ (some_cut (by_bit xs q w g v t) p k x.from (skipped t)) (ap (λ (b : Bool). b && pair_at xs q w (g + k) t) x.here)

-- no bit is left
pub word_all : {rs ys : List ℕ} {p : ℕ} (xs : List ℕ) (q w g v : ℕ) → Row 0 w (taken rs xs q w g v p) rs ys → ((i : ℕ) → p ≤ i → i < 64 → bit_of v i ≡ false) → p ≤ 64
    → Row 0 w (taken rs xs q w g v 64) rs ys
unfolding taken
word_all {rs} {p = p} xs q w g v r e h =
    row_is r (λ t l. ap (λ (b : Bool). row_bit rs 0 t || b) (sym (some_cut (by_bit xs q w g v t) p 64 h (λ i a b. ap (λ (c : Bool). c && pair_at xs q w (g + i) t) (e i a b)))))

-- no bit at all
pub word_empty : (rs xs : List ℕ) (q w g v : ℕ) → v ≡ 0 → Row 0 w (taken rs xs q w g v 64) rs rs
word_empty rs xs q w g v e = word_all xs q w g v (word_none rs xs q w g v) (λ i a b. ap (λ (x : ℕ). bit_of x i) e ∙ bit_zero i) (omega arith)

-- a row of words that are 0 has no bit
pub row_blank : (m t : ℕ) → t / 64 < m → row_bit (replicate m 0) 0 t ≡ false
unfolding row_bit
row_blank m t h = ap (λ (x : ℕ). bit_of x (t % 64)) (get_or-replicate m (0 + t / 64) 0 0 (omega arith)) ∙ bit_zero (t % 64)

-- by way of a row that was empty
pub word_aside : {rs ys zs : List ℕ} (xs : List ℕ) (k q w g v : ℕ) → Row 0 w (taken (replicate k 0) xs q w g v 64) (replicate k 0) ys
    → Row 0 w (λ t. row_bit rs 0 t || row_bit ys 0 t) rs zs → w ≤ k → Row 0 w (taken rs xs q w g v 64) rs zs
unfolding taken
word_aside {rs} xs k q w g v p r h =
    row_is r (λ t l.
    ap (λ (b : Bool). row_bit rs 0 t || b) (p.bit t l ∙ ap (λ (b : Bool). b || some? (by_bit xs q w g v t) (range 64)) (row_blank k t (omega arith))))

-- ---- the words of the row at d of fs, under the row at m of the mask
pub row_word : (xs : List ℕ) (r i j : ℕ) → j < 64 → row_bit xs r (64 * i + j) ≡ bit_of (get_or xs (r + i) 0) j
unfolding row_bit
row_word xs r i j h =
    let d : (64 * i + j) / 64 ≡ i = omega arith in
    let m : (64 * i + j) % 64 ≡ j = omega arith in
    rw (d, m)

masked_word : (fs ms : List ℕ) (d m i j : ℕ) → j < 64 → bit_of (bit_and (get_or fs (d + i) 0) (get_or ms (m + i) 0)) j ≡ row_bit fs d (64 * i + j) && row_bit ms m (64 * i + j)
masked_word fs ms d m i j h = bit_of_and (get_or fs (d + i) 0) (get_or ms (m + i) 0) j ∙ ap₂ ◌&&◌ (sym (row_word fs d i j h)) (sym (row_word ms m i j h))

-- a bit of such a word stands for a record
pub word_clean : (fs ms : List ℕ) (d m n w i : ℕ) → CleanRow fs d n w → i < w → get_or fs (d + i) 0 < 2 ^ 64
    → (j : ℕ) → bit_of (bit_and (get_or fs (d + i) 0) (get_or ms (m + i) 0)) j ≡ true → 64 * i + j < n
word_clean fs ms d m n w i c h l j e =
    let f = bit_of (get_or fs (d + i) 0) j in
    let g = bit_of (get_or ms (m + i) 0) j in
    let b : f ≡ true = to_true f (and_left f g (of_true (f && g) (sym (bit_of_and (get_or fs (d + i) 0) (get_or ms (m + i) 0) j) ∙ e))) in
    let k = bit_below 64 (get_or fs (d + i) 0) j l b in
    c (64 * i + j) (omega arith) (row_word fs d i j k ∙ b)

mask_last : (a m x : Bool) → (a && m) && x ≡ a && (x && m)
mask_last true true true = refl
mask_last true true false = refl
mask_last true false true = refl
mask_last true false false = refl
mask_last false m x = refl

module _ (fs : List ℕ) (d : ℕ) (xs : List ℕ) (q w : ℕ) (ms : List ℕ) (m : ℕ) where
  pub words_none : (rs : List ℕ) → Row 0 w (taken_row rs fs d xs q w ms m 0) rs rs
  unfolding taken_row
  words_none rs = row_is (row_same 0 w rs) (λ t h. sym (or-false (row_bit rs 0 t)))

  -- the row took in the rows that word i names
  pub words_more : {rs ys zs : List ℕ} (i : ℕ) → Row 0 w (taken_row rs fs d xs q w ms m (64 * i)) rs ys
      → Row 0 w (taken ys xs q w (64 * i) (bit_and (get_or fs (d + i) 0) (get_or ms (m + i) 0)) 64) ys zs → Row 0 w (taken_row rs fs d xs q w ms m (64 * (i + 1))) rs zs
  unfolding taken taken_row
  words_more {rs} i p b =
      row_is (row_then p b) (λ t h.
      ap (λ (x : Bool). x || some? (by_word t) (range 64)) (p.bit t h)
      ∙ or_assoc (row_bit rs 0 t) (some? (by_row fs d xs q w ms m t) (range (64 * i))) (some? (by_word t) (range 64))
      ∙ ap (λ (x : Bool). row_bit rs 0 t || x) (sym (grown t)))
    where
      by_word : ℕ → ℕ → Bool
      by_word t j = by_bit xs q w (64 * i) (bit_and (get_or fs (d + i) 0) (get_or ms (m + i) 0)) t j

      same : (t j : ℕ) → j < 64 → by_row fs d xs q w ms m t (64 * i + j) ≡ by_word t j
      same t j h =
          sym (mask_last (row_bit fs d (64 * i + j)) (row_bit ms m (64 * i + j)) (pair_at xs q w (64 * i + j) t))
          ∙ ap (λ (x : Bool). x && pair_at xs q w (64 * i + j) t) (sym (masked_word fs ms d m i j h))

      next : 64 * (i + 1) ≡ 64 * i + 64
      next = omega arith

      grown : (t : ℕ) → some? (by_row fs d xs q w ms m t) (range (64 * (i + 1))) ≡ some? (by_row fs d xs q w ms m t) (range (64 * i)) || some? (by_word t) (range 64)
      grown t =
          ap (λ (k : ℕ). some? (by_row fs d xs q w ms m t) (range k)) next
          ∙ some_add (by_row fs d xs q w ms m t) (64 * i) 64
          ∙ ap (λ (x : Bool). some? (by_row fs d xs q w ms m t) (range (64 * i)) || x) (some_same (λ j. by_row fs d xs q w ms m t (64 * i + j)) (by_word t) 64 (same t))

  -- all of them, into a row that was empty: a clean row has no bit of n or more
  pub words_all : {rs ys : List ℕ} (n : ℕ) → Row 0 w (taken_row rs fs d xs q w ms m (64 * w)) rs ys → ((t : ℕ) → t / 64 < w → row_bit rs 0 t ≡ false)
      → n ≤ 64 * w → CleanRow fs d n w → Row 0 w (λ t. some? (by_row fs d xs q w ms m t) (range n)) rs ys
  unfolding taken_row
  words_all n p blank hn c =
      row_is p (λ t h.
      ap (λ (b : Bool). b || some? (by_row fs d xs q w ms m t) (range (64 * w))) (blank t h)
      ∙ some_cut (by_row fs d xs q w ms m t) n (64 * w) hn (λ z l k. none t z l (omega arith)))
    where
      none : (t z : ℕ) → n ≤ z → z / 64 < w → by_row fs d xs q w ms m t z ≡ false
      none t z l h = ap (λ (b : Bool). b && (pair_at xs q w z t && row_bit ms m z)) (clean_past fs d n w z c h l)

  -- and from there into a row
  pub words_put : {ys zs os : List ℕ} (k b n : ℕ) → Row 0 w (taken_row (replicate k 0) fs d xs q w ms m (64 * w)) (replicate k 0) ys → Row b w (row_bit ys 0) os zs
      → w ≤ k → n ≤ 64 * w → CleanRow fs d n w → Row b w (λ t. some? (by_row fs d xs q w ms m t) (range n)) os zs
  words_put k b n p r hk hn c = row_is r (words_all n p (λ t h. row_blank k t (omega arith)) hn c).bit

-- an empty row takes nothing in
pub row_none : (xs ms : List ℕ) (d q n w : ℕ) → some? (row_bit xs d) (range (64 * w)) ≡ false → n ≤ 64 * w → Row d w (λ t. some? (by_row xs d xs q w ms 0 t) (range n)) xs xs
row_none xs ms d q n w e hn =
    row_is (row_same d w xs) (λ t h.
    some_no (row_bit xs d) (64 * w) t e (omega arith)
    ∙ sym (some_none (by_row xs d xs q w ms 0 t) n (λ z l. ap (λ (b : Bool). b && (pair_at xs q w z t && row_bit ms 0 z)) (some_no (row_bit xs d) (64 * w) z e (omega arith)))))

-- ---- the rows of the relation at p, one after another
pub join_more : {xs ys zs : List ℕ} {s : ℕ} (ms : List ℕ) (p q n w : ℕ) → Made p s w (join? n (row_bit ms 0) (pair_at xs p w) (pair_at xs q w)) xs ys
    → Row (p + s * w) w (λ t. some? (by_row ys (p + s * w) ys q w ms 0 t) (range n)) ys zs → s < n → n ≤ 64 * w → p + n * w ≤ q
    → Made p (s + 1) w (join? n (row_bit ms 0) (pair_at xs p w) (pair_at xs q w)) xs zs
join_more {xs} {ys} {zs} {s} ms p q n w m r hs hn a =
    made_more m (row_is r (λ t h. some_same (by_row ys (p + s * w) ys q w ms 0 t) (by_row xs (p + s * w) xs q w ms 0 t) n
    (λ z l. ap₂ ◌&&◌ (first z l) (ap (λ (b : Bool). b && row_bit ms 0 z) (second z t h)))))
  where
    first : (z : ℕ) → z < n → row_bit ys (p + s * w) z ≡ row_bit xs (p + s * w) z
    first z l = row_ahead (p + s * w) z m (omega arith) (omega arith)

    second : (z t : ℕ) → t / 64 < w → pair_at ys q w z t ≡ pair_at xs q w z t
    second z t h = row_ahead (q + z * w) t m (omega (arith, row_le w hs)) h
