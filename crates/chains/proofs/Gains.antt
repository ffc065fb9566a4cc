-- Rows of a relation that take in more: one after the other, and band after band.
-- Assumes nothing.
use mathlib.Core.Path.{◌≡◌, refl, sym, ap, ◌∙◌, subst}
use mathlib.Core.Bool.{Bool, true, false, ◌&&◌, ◌||◌, or-false, and-false}
use mathlib.Core.List.{List}
use mathlib.Core.Logic.{inl, inr, ⊎_elim}
use Prim.Native.Nat.{ℕ, ◌+◌, ◌-◌, ◌*◌, ◌/◌, ◌^◌, ◌≤◌, ◌<◌}
use native.Mathlib.Nat.{zero-add, eq-or-lt_of_le}
use native.Mathlib.Omega.{arith}
use lib.ListN.{get_or}
use Rattle.bits.specs.Bit.{bit_of}
use Rattle.rows.specs.Row.{row_bit, Row}
use Rattle.rows.proofs.Words.{kept_refl, kept_trans, le_or_lt}
use Rattle.rows.proofs.Rows.{kept_bit, row_is}
use Rattle.rows.proofs.BitLists.{Next}
use Rattle.relation.specs.Pairs.{pair_at, Made, CleanRow}
use Rattle.relation.proofs.Making.{row_le}
use Rattle.relation.proofs.Joining.{row_word, bit_below}
use Rattle.chains.specs.Routed.{between, Gained}

-- ---- any pairs f
module _ {n w : ℕ} {f : ℕ → ℕ → Bool} where
  pub gained_none : (lo hi : ℕ) (xs : List ℕ) → hi ≤ lo → Gained lo hi n w f xs xs
  gained_none lo hi xs e = record { kept = kept_refl _ _ xs; gained = λ s t l h hs ht. absurd (omega arith); other = λ s t o hs ht. refl }

  -- rows for which there is no pair stay as they are
  pub gained_skip : {lo p : ℕ} {xs ys : List ℕ} (q : ℕ) → Gained lo p n w f xs ys → p ≤ q → ((s t : ℕ) → p ≤ s → s < q → f s t ≡ false) → Gained lo q n w f xs ys
  gained_skip {xs = xs} q g l none = record {
    kept = g.kept;
    gained = λ s t a b hs ht. ⊎_elim
        (λ (c : _ ≤ s). g.other s t (inr c) hs ht ∙ sym (or-false (row_bit xs (s * w) t)) ∙ ap (λ (x : Bool). row_bit xs (s * w) t || x) (sym (none s t c b)))
        (λ (c : s < _). g.gained s t a c hs ht)
        (le_or_lt _ s);
    other = λ s t o hs ht. g.other s t (⊎_elim (λ a. inl a) (λ a. inr (omega arith)) o) hs ht;
  }

  -- one row more
  pub gained_row : {lo : ℕ} {xs ys zs : List ℕ} (p : ℕ) → Gained lo p n w f xs ys → Row (p * w) w (λ t. row_bit ys (p * w) t || f p t) ys zs → p < n → lo ≤ p → Gained lo (p + 1) n w f xs zs
  gained_row {xs = xs} {ys} {zs} p g r hp l = record {
    kept = kept_trans g.kept r.kept (omega arith) (omega (arith, row_le w hp)) (omega arith) (omega (arith, row_le w hp));
    gained = λ s t a b hs ht. ⊎_elim
        (λ (e : s ≡ p). rw e (r.bit t ht ∙ ap (λ (x : Bool). x || f p t) (g.other p t (inr (omega arith)) hp ht)))
        (λ (c : s < p). kept_bit (s * w) w t r.kept (inl (row_le w c)) ht ∙ g.gained s t a c hs ht)
        (eq-or-lt_of_le (omega arith));
    other = λ s t o hs ht. kept_bit (s * w) w t r.kept
        (⊎_elim (λ (a : s < _). inl (row_le w (let c : s < p = omega arith in c))) (λ (a : p + 1 ≤ s). inr (row_le w (let c : p < s = omega arith in c))) o) ht
        ∙ g.other s t (⊎_elim (λ a. inl a) (λ a. inr (omega arith)) o) hs ht;
  }

  -- one band after the other
  pub gained_then : {lo mid hi : ℕ} {xs ys zs : List ℕ} → Gained lo mid n w f xs ys → Gained mid hi n w f ys zs → lo ≤ mid → mid ≤ hi → Gained lo hi n w f xs zs
  gained_then g h l k = record {
    kept = kept_trans g.kept h.kept (omega arith) (omega arith) (omega arith) (omega arith);
    gained = λ s t a b hs ht. ⊎_elim
        (λ (c : _ ≤ s). h.gained s t c b hs ht ∙ ap (λ (x : Bool). x || f s t) (g.other s t (inr c) hs ht))
        (λ (c : s < _). h.other s t (inl c) hs ht ∙ g.gained s t a c hs ht)
        (le_or_lt _ s);
    other = λ s t o hs ht. h.other s t (⊎_elim (λ a. inl (omega arith)) (λ a. inr a) o) hs ht ∙ g.other s t (⊎_elim (λ a. inl a) (λ a. inr (omega arith)) o) hs ht;
  }

  -- all rows
  pub gained_all : {hi : ℕ} {xs ys : List ℕ} → Gained 0 hi n w f xs ys → n ≤ hi → Made 0 n w (λ s t. pair_at xs 0 w s t || f s t) xs ys
  gained_all g l = record { kept = rw (zero-add (n * w)) g.kept; pair = λ s t hs ht. rw (zero-add (s * w)) (g.gained s t (omega arith) (omega arith) hs ht) }

-- ---- the records of word i of a mask
bit_at : (from : List ℕ) (i j : ℕ) → j < 64 → row_bit from 0 (64 * i + j) ≡ bit_of (get_or from i 0) j
bit_at from i j h = row_word from 0 i j h ∙ ap (λ (k : ℕ). bit_of (get_or from k 0) j) (zero-add i)

-- a bit of the word stands for a record
pub word_records : (from : List ℕ) (i n w : ℕ) → CleanRow from 0 n w → i < w → get_or from i 0 < 2 ^ 64 → (j : ℕ) → bit_of (get_or from i 0) j ≡ true → 64 * i + j < n
word_records from i n w c h l j e = let k = bit_below 64 (get_or from i 0) j l e in c (64 * i + j) (omega arith) (bit_at from i j k ∙ e)

-- the pairs of f between two masks, for those records
module _ (f : ℕ → ℕ → Bool) (from to : List ℕ) (i : ℕ) where
  absent : (s t : ℕ) → row_bit from 0 s ≡ false → between f from to s t ≡ false
  absent s t e = ap (λ (b : Bool). f s t && (b && row_bit to 0 t)) e ∙ and-false (f s t)

  module _ {n w : ℕ} {xs ys : List ℕ} (p : ℕ) where
    -- from the p-th bit on to the next one, and its record's row
    pub word_row : {zs : List ℕ} (k : ℕ) → Gained (64 * i) (64 * i + p) n w (between f from to) xs ys → Next (get_or from i 0) p k → 64 * i + k < n
        → Row ((64 * i + k) * w) w (λ t. row_bit ys ((64 * i + k) * w) t || (f (64 * i + k) t && row_bit to 0 t)) ys zs
        → Gained (64 * i) (64 * i + (k + 1)) n w (between f from to) xs zs
    word_row {zs} k g x hn r =
        subst (λ (q : ℕ). Gained (64 * i) q n w (between f from to) xs zs) (let e : 64 * i + k + 1 ≡ 64 * i + (k + 1) = omega arith in e)
        (gained_row (64 * i + k) (gained_skip (64 * i + k) g (omega (arith, x.from)) skipped) (row_is r same) hn (omega arith))
      where
        skipped : (s t : ℕ) → 64 * i + p ≤ s → s < 64 * i + k → between f from to s t ≡ false
        skipped s t a b =
            let j = s - 64 * i in
            let e : 64 * i + j ≡ s = omega arith in
            absent s t (ap (row_bit from 0) (sym e) ∙ bit_at from i j (omega (arith, x.small)) ∙ x.below j (omega arith) (omega arith))

        here : row_bit from 0 (64 * i + k) ≡ true
        here = bit_at from i k x.small ∙ x.here

        same : (t : ℕ) → t / 64 < w → row_bit ys ((64 * i + k) * w) t || (f (64 * i + k) t && row_bit to 0 t) ≡ row_bit ys ((64 * i + k) * w) t || between f from to (64 * i + k) t
        same t ht = ap (λ (b : Bool). row_bit ys ((64 * i + k) * w) t || (f (64 * i + k) t && (b && row_bit to 0 t))) (sym here)

    -- no bit is left
    pub word_end : Gained (64 * i) (64 * i + p) n w (between f from to) xs ys → ((j : ℕ) → p ≤ j → j < 64 → bit_of (get_or from i 0) j ≡ false) → p ≤ 64
        → Gained (64 * i) (64 * i + 64) n w (between f from to) xs ys
    word_end g e h = gained_skip (64 * i + 64) g (omega arith) none
      where
        none : (s t : ℕ) → 64 * i + p ≤ s → s < 64 * i + 64 → between f from to s t ≡ false
        none s t a b =
            let j = s - 64 * i in
            let q : 64 * i + j ≡ s = omega arith in
            absent s t (ap (row_bit from 0) (sym q) ∙ bit_at from i j (omega arith) ∙ e j (omega arith) (omega arith))

pub gained_word : {n w : ℕ} (i : ℕ) {f : ℕ → ℕ → Bool} {xs ys : List ℕ} → Gained 0 (64 * i + 64) n w f xs ys → Gained 0 (64 * (i + 1)) n w f xs ys
gained_word {n} {w} i {f} {xs} {ys} g = subst (λ (q : ℕ). Gained 0 q n w f xs ys) (let e : 64 * i + 64 ≡ 64 * (i + 1) = omega arith in e) g
