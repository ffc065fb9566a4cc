-- The words of the areas: from pairs and kept words to lists.
-- Assumes nothing.
use mathlib.Core.Path.{◌≡◌, sym, ap, subst, ◌∙◌}
use mathlib.Core.Bool.{Bool, false, ◌&&◌, ◌||◌}
use mathlib.Core.List.{List}
use mathlib.Core.Logic.{⊎_elim}
use Prim.Native.Nat.{ℕ, zero, suc, ◌+◌, ◌-◌, ◌*◌, ◌/◌, ◌%◌, ◌^◌, ◌<◌, ◌≤◌}
use native.Mathlib.Nat.{suc-mul, zero-add}
use native.Mathlib.Omega.{arith}
use lib.Dec.{ltb}
use lib.ListN.{length, get_or}
use lib.Seq.{sets}
use borrow.Author.Tests.{lt-ltb, le-ltb}
use Rattle.bits.proofs.Bits.{bit_ext}
use Rattle.theory.specs.Words.{row_words, answer_words}
use Rattle.theory.proofs.Words.{words_length, word_fits, answer_bit}
use Rattle.rows.specs.Kept.{Kept, Wrote}
use Rattle.rows.specs.Row.{row_bit, Row}
use Rattle.rows.proofs.Words.{le_or_lt}
use Rattle.rows.proofs.Areas.{written_over}
use Rattle.relation.specs.Pairs.{pair_at, Made}
use Rattle.relation.proofs.Making.{row_le, made_clear, row_shift}
use Rattle.evaluation.specs.Stack.{Stored}

-- word j lies in row s
record Place (n w j : ℕ) : Type 0 where
  s : ℕ
  m : ℕ
  row : s < n
  word : m < w
  is : j ≡ s * w + m

place : (n w j : ℕ) → j < n * w → Place n w j
place zero w j h = absurd (omega arith)
place (suc n) w j h = ⊎_elim (λ (l : n * w ≤ j). last l) (λ (l : j < n * w). before (place n w j l)) (le_or_lt (n * w) j)
  where
    last : n * w ≤ j → Place (suc n) w j
    last l = record { s = n; m = j - n * w; row = omega arith; word = omega (arith, suc-mul n w); is = omega arith }

    before : Place n w j → Place (suc n) w j
    before p = record { s = p.s; m = p.m; row = omega (arith, p.row); word = p.word; is = p.is }

-- the words of an answer are those that hold its pairs
pub stored_words : {xs ys : List ℕ} (n : ℕ) (f : ℕ → ℕ → Bool) → Kept 0 (n * row_words n) xs ys → Stored ys 0 n (row_words n) f → ((s t : ℕ) → n ≤ t → f s t ≡ false)
    → ((i : ℕ) → get_or ys i 0 < 2 ^ 64) → n * row_words n ≤ length xs → ys ≡ sets xs 0 (answer_words n f)
unfolding row_bit
stored_words {xs} {ys} n f k h past fits l =
    written_over (answer_words n f) xs ys (subst (λ (i : ℕ). Kept 0 i xs ys) (sym (words_length n f)) k) (λ j b. word j (omega (arith, words_length n f))) (omega (arith, words_length n f))
  where
    same : (s t : ℕ) → ltb t n && f s t ≡ f s t
    same s t = ⊎_elim (λ (m : n ≤ t). rw (le-ltb t n m) (sym (past s t m))) (λ (m : t < n). rw (lt-ltb t n m)) (le_or_lt n t)

    at_place : (s m : ℕ) → s < n → m < row_words n → get_or ys (s * row_words n + m) 0 ≡ get_or (answer_words n f) (s * row_words n + m) 0
    at_place s m hs hm =
        bit_ext 64 (get_or ys (s * row_words n + m) 0) (get_or (answer_words n f) (s * row_words n + m) 0) (fits _) (word_fits n f s m hs hm) (λ b hb.
        let t = 64 * m + b in
        let d : t / 64 ≡ m = omega arith in
        let e : t % 64 ≡ b = omega arith in
        let p = rw (d, e, zero-add (s * row_words n)) at (h.pair s t hs (omega arith)) in
        let q = rw (d, e) at (answer_bit n f s t hs (omega arith)) in
        p ∙ sym (same s t) ∙ sym q)

    word : (j : ℕ) → j < n * row_words n → get_or ys j 0 ≡ get_or (answer_words n f) j 0
    word j b = let p = place n (row_words n) j b in rw p.is (at_place p.s p.m p.row p.word)

-- ---- a relation copied as one row of all its words
pub stored_copied : {ws xs ys : List ℕ} {n w : ℕ} {f : ℕ → ℕ → Bool} → Row 0 (n * w) (row_bit ws 0) xs ys → Stored ws 0 n w f → Stored ys 0 n w f
stored_copied {ws} {xs} {ys} {n} {w} r h = record {
  pair = λ s t hs ht.
      row_shift ys 0 (s * w) t ∙ r.bit (64 * (s * w) + t) (let e = row_le w hs in omega arith) ∙ sym (row_shift ws 0 (s * w) t) ∙ h.pair s t hs ht;
}

-- a relation that was cleared, and then took in the pairs f
pub stored_added : {xs ys zs : List ℕ} {n w : ℕ} (f : ℕ → ℕ → Bool) → Wrote 0 (n * w) (λ j. 0) xs ys → Made 0 n w (λ s t. pair_at ys 0 w s t || f s t) ys zs → Stored zs 0 n w f
stored_added f c m = record { pair = λ s t hs ht. m.pair s t hs ht ∙ ap (λ (b : Bool). b || f s t) ((made_clear c).pair s t hs ht) }
