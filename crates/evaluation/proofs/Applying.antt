-- One symbol: it finds its operands on the stack, and leaves the relation of its path.
-- Assumes nothing.
use mathlib.Core.Path.{◌≡◌, sym, ap, subst, ◌∙◌}
use mathlib.Core.List.{List, [], ◌∷◌}
use mathlib.Core.Option.{some}
use Prim.Native.Nat.{ℕ, ◌+◌, ◌-◌, ◌*◌, ◌≤◌}
use native.Mathlib.Nat.{suc-mul}
use native.Mathlib.Omega.{arith}
use lib.ListN.{length}
use Rattle.theory.specs.TransitiveClosure.{look, closure?}
use Rattle.theory.specs.PathExpr.{Direction, Label, PathExpr, step, join, op, closure, Symbol, s_step, s_join, s_op, s_closure}
use Rattle.theory.specs.Postfix.{Stack, push}
use Rattle.theory.specs.Evaluation.{step?, evaluate}
use Rattle.theory.proofs.Postfix.{none_some}
use Rattle.register.specs.Form.{register_in}
use Rattle.rows.proofs.Words.{kept_in}
use Rattle.relation.specs.Pairs.{pair_at, Made, Clean}
use Rattle.evaluation.specs.Grounded.{Grounded}
use Rattle.evaluation.specs.Stack.{Stored, Stacked, binary?, Applicable, Applied}
use Rattle.evaluation.proofs.Grounds.{limits, rows_hold}
use Rattle.evaluation.proofs.Relations.{stored_clean, stored_step, stored_closure, stored_join, stored_op, stacked_length, stacked_kept}

-- an operator of two operands
abbrev pub Binary : Symbol → Type 0
Binary (s_step d l) = ⊥
Binary (s_join v) = Unit {0}
Binary (s_op o) = Unit {0}
Binary s_closure = ⊥

module _ {s : List ℕ} {n w : ℕ} (ground : Grounded s n w) where
  -- ---- its operands
  clean : {xs : List ℕ} {b : ℕ} (p : PathExpr) → Stored xs b n w (look (evaluate (register_in s) p)) → Clean xs b n w
  clean p h = stored_clean (register_in s) (limits ground).formed n w ground.count (rows_hold ground) p h

  fits_end : {xs : List ℕ} {b : ℕ} {x : Symbol} → Applicable (register_in s) xs n w b x → b ≤ length xs
  fits_end {xs} {b} f = omega (arith, f.room, stacked_length (register_in s) n w xs b f.before f.stacked)

  pub fits_step : {xs : List ℕ} {b : ℕ} {x : Symbol} (d : Direction) (l : Label) → x ≡ s_step d l → Applicable (register_in s) xs n w b x → b + n * w ≤ length xs
  fits_step {xs} {b} d l e f =
      let z : some (step d l ∷ f.before) ≡ some f.after = sym (ap (λ y. push y f.before) e) ∙ f.pushes in
      let k : step d l ∷ f.before ≡ f.after = cc in
      let m = ap length k in
      let r : length f.after * (n * w) ≡ length f.before * (n * w) + n * w = ap (λ i. i * (n * w)) (sym m) ∙ suc-mul (length f.before) (n * w) in
      omega (arith, f.more, r, stacked_length (register_in s) n w xs b f.before f.stacked)

  -- one operand lies before b
  pub record One (xs : List ℕ) (b : ℕ) : Type 0 where
    pub ends : b ≤ length xs
    pub below : n * w ≤ b
    pub top : Clean xs (b - n * w) n w

  pub fits_one : {xs : List ℕ} {b : ℕ} {x : Symbol} → x ≡ s_closure → Applicable (register_in s) xs n w b x → One xs b
  fits_one {xs} {b} {x} e f = go f.before f.stacked (sym (ap (λ y. push y f.before) e) ∙ f.pushes)
    where
      go : (st : Stack) → Stacked (register_in s) xs n w b st → push s_closure st ≡ some f.after → One xs b
      go [] h q = none_some q
      go (p ∷ st) h q = record { ends = fits_end f; below = h.0; top = clean p h.1 }

  -- two operands do
  pub record Two (xs : List ℕ) (b : ℕ) : Type 0 where
    pub ends : b ≤ length xs
    pub below : n * w ≤ b
    pub under : n * w ≤ b - n * w
    pub top : Clean xs (b - n * w) n w
    pub next : Clean xs (b - n * w - n * w) n w

  pub fits_two : {xs : List ℕ} {b : ℕ} {x : Symbol} (y : Symbol) → Binary y → x ≡ y → Applicable (register_in s) xs n w b x → Two xs b
  fits_two {xs} {b} {x} y k i f = go y k f.before f.stacked (sym (ap (λ z. push z f.before) i) ∙ f.pushes)
    where
      two : (p q : PathExpr) (st : Stack) → Stacked (register_in s) xs n w b (q ∷ p ∷ st) → Two xs b
      two p q st h = record { ends = fits_end f; below = h.0; under = h.2.0; top = clean q h.1; next = clean p h.2.1 }

      go : (y : Symbol) → Binary y → (st : Stack) → Stacked (register_in s) xs n w b st → push y st ≡ some f.after → Two xs b
      go (s_step d l) k st h e = absurd k
      go (s_join v) k [] h e = none_some e
      go (s_join v) k (q ∷ []) h e = none_some e
      go (s_join v) k (q ∷ p ∷ st) h e = two p q st h
      go (s_op o) k [] h e = none_some e
      go (s_op o) k (q ∷ []) h e = none_some e
      go (s_op o) k (q ∷ p ∷ st) h e = two p q st h
      go s_closure k st h e = absurd k

  -- ---- what it leaves
  module _ {xs ys : List ℕ} (b : ℕ) (x : Symbol) where
    applied : (y : Symbol) (c : ℕ) → x ≡ y → Applied (register_in s) n w b y c xs ys → Applied (register_in s) n w b x c xs ys
    applied y c e a = subst (λ z. Applied (register_in s) n w b z c xs ys) (sym e) a

    pub applied_step : (d : Direction) (l : Label) → x ≡ s_step d l → Made b n w (step? (register_in s) d l) xs ys → Applied (register_in s) n w b x (b + n * w) xs ys
    applied_step d l e m = applied (s_step d l) (b + n * w) e (record { kept = kept_in m.kept (omega arith) (omega arith); next = next })
      where
        back : b + n * w - n * w ≡ b
        back = omega arith

        next : (st st' : Stack) → Stacked (register_in s) xs n w b st → push (s_step d l) st ≡ some st' → Stacked (register_in s) ys n w (b + n * w) st'
        next st st' h q =
            let k : step d l ∷ st ≡ st' = cc in
            subst (Stacked (register_in s) ys n w (b + n * w)) k (
              omega arith,
              subst (λ (i : ℕ). Stored ys i n w (look (evaluate (register_in s) (step d l)))) (sym back)
                  (stored_step (register_in s) (limits ground).formed n w ground.count (rows_hold ground) d l m),
              subst (λ (i : ℕ). Stacked (register_in s) ys n w i st) (sym back) (stacked_kept (register_in s) n w b st m.kept (omega arith) h),
            )

    pub applied_closure : x ≡ s_closure → n * w ≤ b → Made (b - n * w) n w (look (closure? n (pair_at xs (b - n * w) w))) xs ys → Applied (register_in s) n w b x b xs ys
    applied_closure e l m = applied s_closure b e (record { kept = kept_in m.kept (omega arith) (omega arith); next = next })
      where
        next : (st st' : Stack) → Stacked (register_in s) xs n w b st → push s_closure st ≡ some st' → Stacked (register_in s) ys n w b st'
        next [] st' h q = none_some q
        next (p ∷ st) st' h q =
            let k : closure p ∷ st ≡ st' = cc in
            subst (Stacked (register_in s) ys n w b) k (
              h.0,
              stored_closure (register_in s) (limits ground).formed n w ground.count (rows_hold ground) p m h.1,
              stacked_kept (register_in s) n w (b - n * w) st m.kept (omega arith) h.2,
            )

  applied_binary : {xs ys : List ℕ} (b : ℕ) (x : Symbol) → Binary x → n * w ≤ b → n * w ≤ b - n * w
      → Made (b - n * w - n * w) n w (binary? (register_in s) x (pair_at xs (b - n * w - n * w) w) (pair_at xs (b - n * w) w)) xs ys
      → Applied (register_in s) n w b x (b - n * w) xs ys
  applied_binary b (s_step d l) k l₁ l₂ m = absurd k
  applied_binary b s_closure k l₁ l₂ m = absurd k
  applied_binary {xs} {ys} b (s_join v) k l₁ l₂ m = record { kept = kept_in m.kept (omega arith) (omega arith); next = next }
    where
      next : (st st' : Stack) → Stacked (register_in s) xs n w b st → push (s_join v) st ≡ some st' → Stacked (register_in s) ys n w (b - n * w) st'
      next [] st' h e = none_some e
      next (q ∷ []) st' h e = none_some e
      next (q ∷ p ∷ st) st' h e =
          let k : join v p q ∷ st ≡ st' = cc in
          subst (Stacked (register_in s) ys n w (b - n * w)) k (
            l₂,
            stored_join (register_in s) (limits ground).formed n w ground.count (rows_hold ground) p q h.2.1 h.1 v m,
            stacked_kept (register_in s) n w (b - n * w - n * w) st m.kept (omega arith) h.2.2,
          )
  applied_binary {xs} {ys} b (s_op o) k l₁ l₂ m = record { kept = kept_in m.kept (omega arith) (omega arith); next = next }
    where
      next : (st st' : Stack) → Stacked (register_in s) xs n w b st → push (s_op o) st ≡ some st' → Stacked (register_in s) ys n w (b - n * w) st'
      next [] st' h e = none_some e
      next (q ∷ []) st' h e = none_some e
      next (q ∷ p ∷ st) st' h e =
          let k : op o p q ∷ st ≡ st' = cc in
          subst (Stacked (register_in s) ys n w (b - n * w)) k (
            l₂,
            stored_op (register_in s) (limits ground).formed n w ground.count (rows_hold ground) p q h.2.1 h.1 o m,
            stacked_kept (register_in s) n w (b - n * w - n * w) st m.kept (omega arith) h.2.2,
          )

  pub applied_two : {xs ys : List ℕ} (b : ℕ) {x : Symbol} (y : Symbol) → Binary y → x ≡ y → n * w ≤ b → n * w ≤ b - n * w
      → Made (b - n * w - n * w) n w (binary? (register_in s) y (pair_at xs (b - n * w - n * w) w) (pair_at xs (b - n * w) w)) xs ys
      → Applied (register_in s) n w b x (b - n * w) xs ys
  applied_two {xs} {ys} b y k e l₁ l₂ m = subst (λ (z : Symbol). Applied (register_in s) n w b z (b - n * w) xs ys) (sym e) (applied_binary b y k l₁ l₂ m)
