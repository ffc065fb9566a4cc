-- Rows that go through the links of a route.
-- Assumes nothing.
use mathlib.Core.Path.{◌≡◌, sym, ap, ◌∙◌, subst}
use mathlib.Core.Bool.{Bool, false, ◌&&◌, and-false, false≢true}
use mathlib.Core.List.{List}
use mathlib.Core.Logic.{⊎_elim}
use Prim.Native.Nat.{ℕ, zero, suc, ◌+◌, ◌*◌, ◌/◌, ◌≤◌, ◌<◌}
use native.Mathlib.Numerals.{add-one}
use native.Mathlib.Omega.{arith}
use lib.ListN.{get_or}
use Rattle.theory.specs.Lists.{some?, range}
use Rattle.rows.specs.Row.{row_bit, Row}
use Rattle.rows.proofs.Words.{le_or_lt}
use Rattle.rows.proofs.Ranges.{some_same, some_none}
use Rattle.rows.proofs.Rows.{row_is, row_then}
use Rattle.relation.specs.Pairs.{pair_at, CleanRow, taken_row}
use Rattle.relation.proofs.Clean.{clean_past}
use Rattle.relation.proofs.Joining.{words_all}
use Rattle.chains.specs.Routed.{routed, Routed}

module _ {xs bs ms : List ℕ} {n w m : ℕ} (route : Routed xs bs ms n w m) where
  -- it leads to no record of n or more
  routed_past : (j s t : ℕ) → j ≤ m → s < n → n ≤ t → t / 64 < w → routed xs bs ms n w j s t ≡ false
  routed_past zero s t hj hs l ht = clean_past xs (get_or bs 0 0 + s * w) n w t (route.clean 0 (omega arith) s hs) ht l
  routed_past (suc j) s t hj hs l ht =
      some_none (λ z. routed xs bs ms n w j s z && (pair_at xs (get_or bs (j + 1) 0) w z t && row_bit ms (16 * j) z)) n
      (λ z hz. ap (λ (b : Bool). routed xs bs ms n w j s z && (b && row_bit ms (16 * j) z)) (clean_past xs (get_or bs (j + 1) 0 + z * w) n w t (route.clean (j + 1) (omega arith) z hz) ht l)
      ∙ and-false (routed xs bs ms n w j s z))

  module _ {rs : List ℕ} (s : ℕ) (hs : s < n) where
    -- a row that has gone through j links is clean
    pub routed_clean : {ys : List ℕ} (j : ℕ) → j ≤ m → Row 0 w (routed xs bs ms n w j s) rs ys → CleanRow ys 0 n w
    routed_clean j hj r t ht e = ⊎_elim (λ (l : n ≤ t). absurd (false≢true (sym (routed_past j s t hj hs l ht) ∙ sym (r.bit t ht) ∙ e))) (λ (l : t < n). l) (le_or_lt n t)

    -- through the first link
    pub routed_first : {ys : List ℕ} → Row 0 w (taken_row rs xs (get_or bs 0 0 + s * w) xs (get_or bs 1 0) w ms 0 (64 * w)) rs ys → ((t : ℕ) → t / 64 < w → row_bit rs 0 t ≡ false)
        → Row 0 w (routed xs bs ms n w 1 s) rs ys
    routed_first r blank = words_all xs (get_or bs 0 0 + s * w) xs (get_or bs 1 0) w ms 0 n r blank route.wide (route.clean 0 (omega arith) s hs)

    -- through one more
    pub routed_more : {ys zs : List ℕ} (j : ℕ) → Row 0 w (routed xs bs ms n w j s) rs ys
        → Row 0 w (λ t. some? (λ z. row_bit ys 0 z && (pair_at xs (get_or bs (j + 1) 0) w z t && row_bit ms (16 * j) z)) (range n)) ys zs → Row 0 w (routed xs bs ms n w (j + 1) s) rs zs
    routed_more {ys} {zs} j r o =
        subst (λ (k : ℕ). Row 0 w (routed xs bs ms n w k s) rs zs) (sym (add-one j))
        (row_is (row_then r o) (λ t ht. some_same (λ z. row_bit ys 0 z && (pair_at xs (get_or bs (j + 1) 0) w z t && row_bit ms (16 * j) z))
        (λ z. routed xs bs ms n w j s z && (pair_at xs (get_or bs (j + 1) 0) w z t && row_bit ms (16 * j) z)) n
        (λ z hz. ap (λ (b : Bool). b && (pair_at xs (get_or bs (j + 1) 0) w z t && row_bit ms (16 * j) z)) (r.bit z (omega (arith, route.wide))))))

    pub routed_all : {ys : List ℕ} (j : ℕ) → Row 0 w (routed xs bs ms n w j s) rs ys → j ≡ m → Row 0 w (routed xs bs ms n w m s) rs ys
    routed_all {ys} j r e = subst (λ (k : ℕ). Row 0 w (routed xs bs ms n w k s) rs ys) e r
