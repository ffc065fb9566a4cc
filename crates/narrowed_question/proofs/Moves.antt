-- A narrowed question's field that was judged, taken apart: what each kind of field hands over, and where it leads.
-- Assumes nothing.
use Prim.Native.Nat.{ℕ, ◌-◌, ◌≤◌}
use mathlib.Core.Path.{◌≡◌, refl, ap}
use mathlib.Core.Bool.{Bool, true, false, cond, ◌&&◌}
use mathlib.Core.List.{List}
use lib.ListN.{get_or}
use lib.Dec.{leb, eqb}
use native.Mathlib.Omega.{arith}
use borrow.Author.Tests.{eqb-true, eqb-false, leb-true}
use Rattle.symbols.specs.declared.Stack.{Stack}
use Rattle.theory.specs.Result.{got, onward}
use Rattle.fields.specs.Reading.{word, eight}
use Rattle.symbols.specs.Symbols.{Numbered, symbol_in, push, arity}
use Rattle.fields.proofs.Bools.{onward_got, got_same, cond_then, not_got, and_left, and_right}
use Rattle.narrowed_question.specs.declared.Standing.{Standing}
use Rattle.narrowed_question.specs.declared.Standing.TheVariants.{Between, Within}
use Rattle.narrowed_question.specs.Form.{Item, nothing, opens, symbol, last, count_of, fresh, open_of, grown, member_symbol}

-- 41 hands over nothing
pub count_got : (at : ℕ) (b : List ℕ) (v : Standing × Item) → count_of at b ≡ got v → (Between (word b 0) ≡ v.0) × (nothing ≡ v.1) × (word b 0 ≤ 128)
unfolding count_of
count_got at b v e =
    let a = cond_then (leb (word b 0) 128) (not_got 3 at v) e in
    let z = got_same a.1 in
    (ap (λ (p : Standing × Item). p.0) z, ap (λ (p : Standing × Item). p.1) z, leb-true (word b 0) 128 a.0)

-- 42 opens a member
pub open_got : (l at : ℕ) (b : List ℕ) (v : Standing × Item) → open_of l at b ≡ got v
    → (Within (l - 1) at (fresh (get_or b 0 0)) ≡ v.0) × (opens (get_or b 0 0) (eight b 1) (eight b 9) ≡ v.1) × (1 ≤ get_or b 0 0) × (get_or b 0 0 ≤ 48)
unfolding open_of
open_got l at b v e =
    let a = cond_then (leb 1 (get_or b 0 0) && leb (get_or b 0 0) 48) (not_got 3 at v) e in
    let z = got_same a.1 in (
      ap (λ (p : Standing × Item). p.0) z,
      ap (λ (p : Standing × Item). p.1) z,
      leb-true 1 (get_or b 0 0) (and_left _ (leb (get_or b 0 0) 48) a.0),
      leb-true (get_or b 0 0) 48 (and_right (leb 1 (get_or b 0 0)) _ a.0),
    )

-- a symbol
pub record Symbolic (l p : ℕ) (q : Stack) (at next t : ℕ) (b : List ℕ) (v : Standing × Item) : Type 0 where
  pub x : Numbered
  pub q' : Stack
  pub sym_is : symbol_in at t b ≡ got x
  pub push_is : push q at next (arity x.number) ≡ got q'
  pub grown_is : grown l p x q' ≡ v

pub symbol_got : (l p : ℕ) (q : Stack) (at next t : ℕ) (b : List ℕ) (v : Standing × Item) → member_symbol l p q at next t b ≡ got v → Symbolic l p q at next t b v
unfolding member_symbol
symbol_got l p q at next t b v e =
    let (x, hx, e') = onward_got (λ x. onward (λ q'. got (grown l p x q')) (push q at next (arity x.number))) (symbol_in at t b) v e in
    let (q', hq, e'') = onward_got (λ q'. got (grown l p x q')) (push q at next (arity x.number)) v e' in
    record { x = x; q' = q'; sym_is = hx; push_is = hq; grown_is = got_same e'' }

-- one of several, or the last
module _ (l p : ℕ) (x : Numbered) (q : Stack) where
  -- what it hands over, and where it leads
  pub by_left : (P : Standing × Item → Type 0) (v : Standing × Item) → grown l p x q ≡ v → (q.left ≡ 0 → (Between l ≡ v.0) → (last x p ≡ v.1) → P v)
      → ((q.left ≡ 0 → ⊥) → (Within l p q ≡ v.0) → (symbol x ≡ v.1) → P v) → P v
  by_left P v e done more = go (eqb q.left 0) refl e
    where
      go : (b : Bool) → eqb q.left 0 ≡ b → ◌≡◌ {A = Standing × Item} (cond b (Between l, last x p) (Within l p q, symbol x)) v → P v
      go true h e = done (eqb-true q.left 0 h) (ap (λ (w : Standing × Item). w.0) e) (ap (λ (w : Standing × Item). w.1) e)
      go false h e = more (eqb-false q.left 0 h) (ap (λ (w : Standing × Item). w.0) e) (ap (λ (w : Standing × Item). w.1) e)

  pub grown_more : (st : Standing) (y : Numbered) → grown l p x q ≡ (st, symbol y) → (q.left ≡ 0 → ⊥) × (Within l p q ≡ st) × (x ≡ y)
  grown_more st y e =
      by_left (λ v. (q.left ≡ 0 → ⊥) × (Within l p q ≡ st) × (x ≡ y)) (st, symbol y) e (λ z a i. let w : ◌≡◌ {A = ℕ} 0 1 = cc i in absurd (omega arith)) (λ z a i. (z, a, cc i))

  pub grown_last : (st : Standing) (y : Numbered) (k : ℕ) → grown l p x q ≡ (st, last y k) → (q.left ≡ 0) × (Between l ≡ st) × (p ≡ k) × (x ≡ y)
  grown_last st y k e =
      by_left (λ v. (q.left ≡ 0) × (Between l ≡ st) × (p ≡ k) × (x ≡ y)) (st, last y k) e (λ z a i. (z, a, cc i, cc i)) (λ z a i. let w : ◌≡◌ {A = ℕ} 0 1 = cc i in absurd (omega arith))

  pub grown_not_nothing : (st : Standing) → grown l p x q ≡ (st, nothing) → ⊥
  grown_not_nothing st e =
      by_left (λ v. ⊥) (st, nothing) e (λ z a i. let w : ◌≡◌ {A = ℕ} 0 1 = cc i in omega arith) (λ z a i. let w : ◌≡◌ {A = ℕ} 0 1 = cc i in omega arith)

  pub grown_not_opens : (st : Standing) (n f t : ℕ) → grown l p x q ≡ (st, opens n f t) → ⊥
  grown_not_opens st n f t e =
      by_left (λ v. ⊥) (st, opens n f t) e (λ z a i. let w : ◌≡◌ {A = ℕ} 0 1 = cc i in omega arith) (λ z a i. let w : ◌≡◌ {A = ℕ} 0 1 = cc i in omega arith)
