-- Branches: the pairs of one relation, where a pair of the other starts from their end or from their start.
-- Assumes nothing.
use mathlib.Core.Path.{◌≡◌, sym, ap, ap₂, ◌∙◌}
use mathlib.Core.Bool.{Bool, true, false, ◌&&◌, and-true, and-false}
use mathlib.Core.List.{List}
use mathlib.Core.Logic.{⊎_elim}
use Prim.Native.Nat.{ℕ, ◌+◌, ◌*◌, ◌≤◌, ◌<◌}
use native.Mathlib.Omega.{arith}
use Rattle.theory.specs.Lists.{some?, range}
use Rattle.theory.specs.PathExpr.{branch_right, branch_left}
use Rattle.theory.specs.Evaluation.{op?}
use Rattle.rows.specs.Row.{row_bit, Row, mask_of}
use Rattle.rows.proofs.Words.{le_or_lt}
use Rattle.rows.proofs.Ranges.{some_same, some_no}
use Rattle.rows.proofs.Rows.{row_is, row_same}
use Rattle.rows.proofs.Masks.{mask_at}
use Rattle.relation.specs.Pairs.{pair_at, Made, CleanRow, Clean}
use Rattle.relation.proofs.Making.{row_le, made_is}
use Rattle.relation.proofs.Combining.{row_ahead, combined_more}
use Rattle.relation.proofs.Clean.{clean_past, clean_some}

-- ---- to the right: targets that the mask of the sources has
pub branched : {p n w : ℕ} {os ms xs ys : List ℕ} (q : ℕ) → Clean xs p n w → Row 0 w (mask_of (λ t. some? (pair_at xs q w t) (range n)) n) os ms
    → Made p n w (λ s t. pair_at xs p w s t && row_bit ms 0 t) xs ys → Made p n w (op? n branch_right (pair_at xs p w) (pair_at xs q w)) xs ys
branched {p} {n} {w} {ms = ms} {xs = xs} q c r m =
    made_is m (λ s t h l. ⊎_elim
    (λ (k : n ≤ t). rw (clean_past xs (p + s * w) n w t (c s h) l k))
    (λ (k : t < n). ap (λ (b : Bool). pair_at xs p w s t && b) (r.bit t l ∙ mask_at (λ t. some? (pair_at xs q w t) (range n)) n t k))
    (le_or_lt n t))

-- ---- to the left: the row at s, where the one at d has a bit
module _ (xs : List ℕ) (d s n w : ℕ) (c : CleanRow xs d n w) (hn : n ≤ 64 * w) where
  abbrev branch : ℕ → Bool
  branch t = row_bit xs s t && some? (row_bit xs d) (range n)

  tested : (b : Bool) → some? (row_bit xs d) (range (64 * w)) ≡ b → (t : ℕ) → row_bit xs s t && b ≡ branch t
  tested b e t = ap (λ (x : Bool). row_bit xs s t && x) (sym e ∙ clean_some xs d n w c hn)

  pub branch_yes : {ys : List ℕ} → some? (row_bit xs d) (range (64 * w)) ≡ true → Row d w (row_bit xs s) xs ys → Row d w branch xs ys
  branch_yes e r = row_is r (λ t h. sym (and-true (row_bit xs s t)) ∙ tested true e t)

  pub branch_no : some? (row_bit xs d) (range (64 * w)) ≡ false → Row d w branch xs xs
  branch_no e = row_is (row_same d w xs) (λ t h. some_no (row_bit xs d) (64 * w) t e (omega arith) ∙ sym (and-false (row_bit xs s t)) ∙ tested false e t)

-- a turn of the loop over the rows
pub branch_more : {p s w : ℕ} {xs ys zs : List ℕ} (q n : ℕ) → Made p s w (op? n branch_left (pair_at xs p w) (pair_at xs q w)) xs ys
    → Row (p + s * w) w (λ t. row_bit ys (q + s * w) t && some? (row_bit ys (p + s * w)) (range n)) ys zs → s < n → p + n * w ≤ q → n ≤ 64 * w
    → Made p (s + 1) w (op? n branch_left (pair_at xs p w) (pair_at xs q w)) xs zs
branch_more {p} {s} {w} {xs} {ys} q n m r h a hn =
    combined_more (λ x y. y) (op? n branch_left (pair_at xs p w) (pair_at xs q w)) (λ t. row_bit ys (q + s * w) t && some? (row_bit ys (p + s * w)) (range n)) m r
    (λ t l. ap₂ ◌&&◌
    (row_ahead (q + s * w) t m (omega (arith, row_le w h)) l)
    (some_same (row_bit ys (p + s * w)) (row_bit xs (p + s * w)) n (λ z k. row_ahead (p + s * w) z m (omega arith) (omega arith))))
