-- Operators of two operands: a join through the records that a mask has is one through those that pass; each by its number.
-- Assumes nothing.
use mathlib.Core.Path.{◌≡◌, sym, ap, subst, ◌∙◌}
use mathlib.Core.Bool.{Bool, ◌&&◌}
use mathlib.Core.List.{List}
use Prim.Native.Nat.{ℕ, ◌+◌, ◌/◌, ◌%◌, ◌<◌}
use native.Mathlib.Omega.{arith}
use lib.ListN.{replicate, get_or-replicate}
use Rattle.bits.specs.Bit.{bit_of}
use Rattle.bits.proofs.Bits.{bit_full}
use Rattle.theory.specs.KindSet.{has}
use Rattle.theory.specs.PathExpr.{Via, any, through, Op, s_join, s_op}
use Rattle.theory.specs.Register.{kind}
use Rattle.theory.specs.Evaluation.{passes?, join?, op?}
use Rattle.rows.specs.Row.{row_bit, Row, mask_of}
use Rattle.rows.proofs.Ranges.{some_same}
use Rattle.rows.proofs.Masks.{mask_at}
use Rattle.register.specs.Form.{register_in}
use Rattle.relation.specs.Pairs.{pair_at, Combined}
use Rattle.relation.proofs.Making.{made_is}
use Rattle.evaluation.specs.Grounded.{Grounded}
use Rattle.evaluation.specs.Stack.{binary?}
use Rattle.evaluation.proofs.Grounds.{rows_hold, narrow}

module _ {s : List ℕ} {n w : ℕ} (ground : Grounded s n w) {xs ys : List ℕ} (p q : ℕ) where
  by_mask : (v : Via) (pass : ℕ → Bool) → ((z : ℕ) → z < n → pass z ≡ passes? (register_in s) v z) → Combined (join? n pass) p q n w xs ys
      → Combined (binary? (register_in s) (s_join v)) p q n w xs ys
  by_mask v pass e m =
      made_is m (λ i t hs ht.
      some_same (λ z. pair_at xs p w i z && (pair_at xs q w z t && pass z)) (λ z. pair_at xs p w i z && (pair_at xs q w z t && passes? (register_in s) v z)) n
      (λ z hz. ap (λ (b : Bool). pair_at xs p w i z && (pair_at xs q w z t && b)) (e z hz))
      ∙ ap (λ (k : ℕ). join? k (passes? (register_in s) v) (pair_at xs p w) (pair_at xs q w) i t) (sym ground.count))

  -- a mask of ones
  pub join_plain : Combined (join? n (row_bit (replicate 16 18446744073709551615) 0)) p q n w xs ys
      → Combined (binary? (register_in s) (s_join any)) p q n w xs ys
  unfolding row_bit
  join_plain m =
      let few = narrow ground in
      let wide = rows_hold ground in
      by_mask any (row_bit (replicate 16 18446744073709551615) 0)
      (λ z hz. ap (λ (x : ℕ). bit_of x (z % 64)) (get_or-replicate 16 (0 + z / 64) 18446744073709551615 0 (omega arith)) ∙ bit_full 64 (z % 64) (omega arith)) m

  -- a mask of the records whose kind is in the set
  pub join_kinds : {ms₀ ms : List ℕ} (set : ℕ) → Row 0 w (mask_of (λ t. has set (kind (register_in s) t)) n) ms₀ ms
      → Combined (join? n (row_bit ms 0)) p q n w xs ys
      → Combined (binary? (register_in s) (s_join (through set))) p q n w xs ys
  join_kinds {ms₀} {ms} set k m =
      let wide = rows_hold ground in
      by_mask (through set) (row_bit ms 0) (λ z hz. k.bit z (omega arith) ∙ mask_at (λ t. has set (kind (register_in s) t)) n z hz) m

  -- another operator, on the register's own number of records
  pub by_op : (o : Op) → Combined (op? n o) p q n w xs ys → Combined (binary? (register_in s) (s_op o)) p q n w xs ys
  by_op o k = subst (λ (i : ℕ). Combined (op? i o) p q n w xs ys) (sym ground.count) k
