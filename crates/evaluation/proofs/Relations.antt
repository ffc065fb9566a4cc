-- Relations in the work words: what is kept, and what each operation makes of the pairs of paths.
-- Assumes nothing.
use mathlib.Core.Path.{◌≡◌, sym, ap, ap₂, ◌∙◌}
use mathlib.Core.Bool.{Bool, false, ◌&&◌, ◌||◌, false≢true, and-false}
use mathlib.Core.List.{List, [], ◌∷◌}
use mathlib.Core.Logic.{◌⊎◌, inl, inr, ⊎_elim}
use Prim.Native.Nat.{ℕ, ◌+◌, ◌-◌, ◌*◌, ◌/◌, ◌≤◌, ◌<◌}
use native.Mathlib.Nat.{suc-mul}
use native.Mathlib.Omega.{arith}
use lib.Dec.{T}
use lib.ListN.{length}
use Rattle.theory.specs.TransitiveClosure.{table, look, closure?}
use Rattle.theory.specs.PathExpr.{Direction, Label, Via, Op, union, conjunction, branch_right, branch_left, PathExpr, step, join, op, closure}
use Rattle.theory.specs.Postfix.{Stack}
use Rattle.theory.specs.Register.{Register, records, well_formed?}
use Rattle.theory.specs.Evaluation.{passes?, step?, join?, op?, evaluate}
use Rattle.theory.proofs.TransitiveClosure.{look_all, closure_same}
use Rattle.rows.specs.Kept.{Kept}
use Rattle.rows.proofs.Words.{le_or_lt}
use Rattle.rows.proofs.Ranges.{some_same, some_none}
use Rattle.rows.proofs.Rows.{kept_bit}
use Rattle.relation.specs.Pairs.{pair_at, Made, Clean}
use Rattle.relation.proofs.Making.{row_le}
use Rattle.evaluation.specs.Stack.{Stored, Stacked}
use Rattle.evaluation.proofs.Tables.{evaluate_past, step_past}

-- a relation apart from what changed is as it was
pub stored_kept : {xs ys : List ℕ} {b n w lo hi : ℕ} {f : ℕ → ℕ → Bool} → Stored xs b n w f → Kept lo hi xs ys → (b + n * w ≤ lo) ⊎ (hi ≤ b) → Stored ys b n w f
stored_kept {b = b} {n = n} {w = w} h k a = record {
  pair = λ s t hs ht. let e = row_le w hs in kept_bit (b + s * w) w t k (⊎_elim (λ l. inl (omega arith)) (λ l. inr (omega arith)) a) ht ∙ h.pair s t hs ht;
}

module _ (r : Register) (formed : T (well_formed? r)) (n w : ℕ) (count : records r ≡ n) (wide : n ≤ 64 * w) where
  -- the relation of a path has no bit of n or more
  pub stored_clean : {xs : List ℕ} {b : ℕ} (p : PathExpr) → Stored xs b n w (look (evaluate r p)) → Clean xs b n w
  stored_clean p h s hs t ht e =
      ⊎_elim (λ (l : n ≤ t). absurd (false≢true (sym (evaluate_past r formed p s t (omega arith)) ∙ sym (h.pair s t hs ht) ∙ e))) (λ (l : t < n). l) (le_or_lt n t)

  -- pairs that a table of n records holds
  tabled : {ys : List ℕ} {b : ℕ} (f : ℕ → ℕ → Bool) → ((s t : ℕ) → s < n → t / 64 < w → pair_at ys b w s t ≡ f s t) → ((s t : ℕ) → n ≤ t → f s t ≡ false)
      → Stored ys b n w (look (table (records r) f))
  tabled f e past = record { pair = λ s t hs ht. e s t hs ht ∙ sym (look_all (records r) f s t (omega arith) (λ l. past s t (omega arith))) }

  pub stored_step : {xs ys : List ℕ} {b : ℕ} (d : Direction) (l : Label) → Made b n w (step? r d l) xs ys → Stored ys b n w (look (evaluate r (step d l)))
  stored_step d l m = tabled (step? r d l) m.pair (λ s t h. step_past r formed d l s t (omega arith))

  pub stored_closure : {xs ys : List ℕ} {b : ℕ} (p : PathExpr) → Made b n w (look (closure? n (pair_at xs b w))) xs ys → Stored xs b n w (look (evaluate r p))
      → Stored ys b n w (look (evaluate r (closure p)))
  stored_closure {xs} {ys} {b} p m h = record {
    pair = λ s t hs ht.
        m.pair s t hs ht
        ∙ ap (λ x. look x s t) (closure_same n (pair_at xs b w) (look (evaluate r p)) (λ a c ha hc. h.pair a c ha (omega arith)))
        ∙ ap (λ k. look (closure? k (look (evaluate r p))) s t) (sym count);
  }

  module _ {xs : List ℕ} {b c : ℕ} (p q : PathExpr) (hp : Stored xs b n w (look (evaluate r p))) (hq : Stored xs c n w (look (evaluate r q))) where
    past_p : (s t : ℕ) → n ≤ t → look (evaluate r p) s t ≡ false
    past_p s t h = evaluate_past r formed p s t (omega arith)

    past_q : (s t : ℕ) → n ≤ t → look (evaluate r q) s t ≡ false
    past_q s t h = evaluate_past r formed q s t (omega arith)

    pub stored_join : {ys : List ℕ} (v : Via) → Made b n w (join? (records r) (passes? r v) (pair_at xs b w) (pair_at xs c w)) xs ys → Stored ys b n w (look (evaluate r (join v p q)))
    stored_join v m =
        tabled (join? (records r) (passes? r v) (look (evaluate r p)) (look (evaluate r q)))
        (λ s t hs ht. m.pair s t hs ht ∙ some_same _ _ (records r) (λ z hz. ap₂ (λ (x y : Bool). x && (y && passes? r v z)) (hp.pair s z hs (omega arith)) (hq.pair z t (omega arith) ht)))
        (λ s t h. some_none _ (records r) (λ z hz. rw (past_q z t h) (and-false (look (evaluate r p) s z))))

    pub stored_op : {ys : List ℕ} (o : Op) → Made b n w (op? (records r) o (pair_at xs b w) (pair_at xs c w)) xs ys → Stored ys b n w (look (evaluate r (op o p q)))
    stored_op union m =
        tabled (op? (records r) union (look (evaluate r p)) (look (evaluate r q))) (λ s t hs ht. m.pair s t hs ht ∙ ap₂ ◌||◌ (hp.pair s t hs ht) (hq.pair s t hs ht))
        (λ s t h. rw (past_p s t h, past_q s t h))
    stored_op conjunction m =
        tabled (op? (records r) conjunction (look (evaluate r p)) (look (evaluate r q))) (λ s t hs ht. m.pair s t hs ht ∙ ap₂ ◌&&◌ (hp.pair s t hs ht) (hq.pair s t hs ht))
        (λ s t h. rw (past_p s t h))
    stored_op branch_right m =
        tabled (op? (records r) branch_right (look (evaluate r p)) (look (evaluate r q)))
        (λ s t hs ht. m.pair s t hs ht ∙ ⊎_elim (λ (l : n ≤ t). off s t l hs ht) (λ (l : t < n). on s t l hs ht) (le_or_lt n t))
        (λ s t h. rw (past_p s t h))
      where
        on : (s t : ℕ) → t < n → s < n → t / 64 < w
            → op? (records r) branch_right (pair_at xs b w) (pair_at xs c w) s t ≡ op? (records r) branch_right (look (evaluate r p)) (look (evaluate r q)) s t
        on s t l hs ht = ap₂ ◌&&◌ (hp.pair s t hs ht) (some_same _ _ (records r) (λ z hz. hq.pair t z l (omega arith)))

        off : (s t : ℕ) → n ≤ t → s < n → t / 64 < w
            → op? (records r) branch_right (pair_at xs b w) (pair_at xs c w) s t ≡ op? (records r) branch_right (look (evaluate r p)) (look (evaluate r q)) s t
        off s t l hs ht = rw (hp.pair s t hs ht, past_p s t l)
    stored_op branch_left m =
        tabled (op? (records r) branch_left (look (evaluate r p)) (look (evaluate r q)))
        (λ s t hs ht. m.pair s t hs ht ∙ ap₂ ◌&&◌ (hq.pair s t hs ht) (some_same _ _ (records r) (λ z hz. hp.pair s z hs (omega arith))))
        (λ s t h. rw (past_q s t h))

-- ---- the stack
module _ (r : Register) (n w : ℕ) where
  -- where it ends
  pub stacked_length : (xs : List ℕ) (b : ℕ) (st : Stack) → Stacked r xs n w b st → b ≡ length st * (n * w)
  stacked_length xs b [] h = omega arith
  stacked_length xs b (p ∷ st) h = let e = stacked_length xs (b - n * w) st h.2 in omega (arith, suc-mul (length st) (n * w), h.0)

  -- a stack that ends before what changed is as it was
  pub stacked_kept : {lo hi : ℕ} {xs ys : List ℕ} (b : ℕ) (st : Stack) → Kept lo hi xs ys → b ≤ lo → Stacked r xs n w b st → Stacked r ys n w b st
  stacked_kept b [] k l h = h
  stacked_kept b (p ∷ st) k l h = (h.0, stored_kept h.1 k (inl (omega (arith, h.0))), stacked_kept (b - n * w) st k (omega arith) h.2)
