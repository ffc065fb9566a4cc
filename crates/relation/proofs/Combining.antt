-- Loops over the rows of a relation that combine each row with another one.
-- Assumes nothing.
use mathlib.Core.Path.{◌≡◌, sym, ap₂}
use mathlib.Core.Bool.{Bool}
use mathlib.Core.List.{List}
use mathlib.Core.Logic.{inr}
use Prim.Native.Nat.{ℕ, ◌+◌, ◌*◌, ◌/◌, ◌≤◌, ◌<◌}
use native.Mathlib.Omega.{arith}
use Rattle.rows.specs.Row.{row_bit, Row}
use Rattle.rows.proofs.Rows.{kept_bit, row_is}
use Rattle.relation.specs.Pairs.{pair_at, Made}
use Rattle.relation.proofs.Making.{row_shift, made_more, made_whole}

-- ---- the loop
-- a row that it has not come to is as it was
pub row_ahead : {b s w : ℕ} {f : ℕ → ℕ → Bool} {xs ys : List ℕ} (r t : ℕ) → Made b s w f xs ys → b + s * w ≤ r → t / 64 < w → row_bit ys r t ≡ row_bit xs r t
row_ahead {w = w} r t m l h = kept_bit r w t m.kept (inr l) h

-- a turn
pub combined_more : {b s w : ℕ} {xs ys zs : List ℕ} (op : Bool → Bool → Bool) (g : ℕ → ℕ → Bool) (h : ℕ → Bool) → Made b s w (λ i t. op (pair_at xs b w i t) (g i t)) xs ys
    → Row (b + s * w) w (λ t. op (row_bit ys (b + s * w) t) (h t)) ys zs → ((t : ℕ) → t / 64 < w → h t ≡ g s t) → Made b (s + 1) w (λ i t. op (pair_at xs b w i t) (g i t)) xs zs
combined_more {b} {s} {w} op g h m r e = made_more m (row_is r (λ t l. ap₂ op (row_ahead (b + s * w) t m (omega arith) l) (e t l)))

-- the words of the relations at p and q, combined as one row each
pub both_whole : {p n w : ℕ} {xs ys : List ℕ} (op : Bool → Bool → Bool) (q : ℕ) → Row p (n * w) (λ t. op (row_bit xs p t) (row_bit xs q t)) xs ys
    → Made p n w (λ s t. op (pair_at xs p w s t) (pair_at xs q w s t)) xs ys
both_whole {p} {w = w} {xs} op q r = made_whole r (λ s t. ap₂ op (sym (row_shift xs p (s * w) t)) (sym (row_shift xs q (s * w) t)))
