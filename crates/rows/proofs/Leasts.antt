-- The first bit that a row and two masks have, word by word.
-- Assumes nothing.
use mathlib.Core.Path.{◌≡◌, sym, ap, ◌∙◌}
use mathlib.Core.Bool.{Bool, false, ◌&&◌}
use mathlib.Core.List.{List}
use mathlib.Core.Logic.{⊎_elim}
use Prim.Native.Nat.{ℕ, ◌+◌, ◌*◌, ◌/◌, ◌%◌, ◌≤◌, ◌<◌}
use native.Mathlib.Nat.{zero-add}
use native.Mathlib.Omega.{arith}
use lib.Bits.{bit_and}
use lib.ListN.{get_or}
use Rattle.bits.specs.Bit.{bit_of, Lowest}
use Rattle.bits.proofs.Bits.{bit_zero, bit_of_and}
use Rattle.rows.specs.Row.{row_bit, common, Least}
use Rattle.rows.proofs.Words.{le_or_lt}

-- what word i of the row and of both masks have in common
abbrev common_words : List ℕ → ℕ → List ℕ → List ℕ → ℕ → ℕ
common_words xs r ps qs i = bit_and (get_or xs (r + i) 0) (bit_and (get_or ps i 0) (get_or qs i 0))

common_bit : (xs : List ℕ) (r : ℕ) (ps qs : List ℕ) (t : ℕ) → common xs r ps qs t ≡ bit_of (common_words xs r ps qs (t / 64)) (t % 64)
unfolding row_bit
common_bit xs r ps qs t =
    sym (bit_of_and (get_or xs (r + t / 64) 0) (bit_and (get_or ps (t / 64) 0) (get_or qs (t / 64) 0)) (t % 64)
    ∙ ap (λ (b : Bool). row_bit xs r t && b) (bit_of_and (get_or ps (t / 64) 0) (get_or qs (t / 64) 0) (t % 64) ∙ rw (zero-add (t / 64))))

module _ (xs : List ℕ) (r : ℕ) (ps qs : List ℕ) where
  abbrev f : ℕ → Bool
  f = common xs r ps qs

  -- the first i words have none
  abbrev pub Passed : ℕ → Type 0
  Passed i = (t : ℕ) → t < 64 * i → f t ≡ false

  -- word i has none
  pub passed_more : (i : ℕ) → Passed i → common_words xs r ps qs i ≡ 0 → Passed (i + 1)
  passed_more i p e t h = ⊎_elim (λ (l : 64 * i ≤ t). last t l h) (λ (l : t < 64 * i). p t l) (le_or_lt (64 * i) t)
    where
      last : (t : ℕ) → 64 * i ≤ t → t < 64 * (i + 1) → f t ≡ false
      last t l k =
          let q : t / 64 ≡ i = omega arith in
          common_bit xs r ps qs t ∙ rw (q, e) (bit_zero (t % 64))

  -- word i has one
  pub least_here : (n i j : ℕ) → Passed i → Lowest 64 (common_words xs r ps qs i) j → i < n → Least f (64 * n) (64 * i + j)
  least_here n i j p l h =
      let s = l.small in
      record { most = omega arith; here = λ k. at j s ∙ l.here; below = λ t k. ⊎_elim (λ (m : 64 * i ≤ t). under t m k) (λ (m : t < 64 * i). p t m) (le_or_lt (64 * i) t) }
    where
      at : (k : ℕ) → k < 64 → f (64 * i + k) ≡ bit_of (common_words xs r ps qs i) k
      at k o =
          let d : (64 * i + k) / 64 ≡ i = omega arith in
          let m : (64 * i + k) % 64 ≡ k = omega arith in
          common_bit xs r ps qs (64 * i + k) ∙ rw (d, m)

      under : (t : ℕ) → 64 * i ≤ t → t < 64 * i + j → f t ≡ false
      under t m k =
          let s = l.small in
          let z : 64 * i + t % 64 ≡ t = omega arith in
          ap f (sym z) ∙ at (t % 64) (omega arith) ∙ l.below (t % 64) (omega arith)
