-- The symbols of a path: what is known of one that was read, and of the stack after it.
-- Assumes nothing.
use mathlib.Core.Path.{◌≡◌, refl, sym, ap, subst}
use mathlib.Core.Bool.{Bool, true, false, cond, not, ◌&&◌}
use mathlib.Core.List.{List}
use Prim.Native.Nat.{ℕ, ◌<◌, ◌+◌, ◌-◌, ◌≤◌}
use native.Mathlib.Omega.{arith}
use lib.Dec.{ltb, leb, eqb}
use lib.ListN.{get_or}
use borrow.Author.Tests.{ltb-true, leb-true, eqb-false}
use Rattle.theory.specs.PathExpr.{Direction, forward, reverse, named, s_step}
use Rattle.symbols.specs.declared.Stack.{Stack}
use Rattle.theory.specs.Result.{got}
use Rattle.fields.specs.Reading.{eight}
use Rattle.symbols.specs.Symbols.{Numbered, numbered, number_symbol, direction_numbered, step_of, operator_of, symbol_in, push, PlainSymbol}
use Rattle.fields.proofs.Bools.{cond_else, cond_then, and_right, not_got}

step_plain : (at : ℕ) (b : List ℕ) (x : Numbered) → step_of at b ≡ got x → PlainSymbol x
unfolding step_of
step_plain at b x e =
    let d = get_or b 0 0 in
    let k = get_or b 1 0 in
    let a = cond_then (ltb d 2 && ltb k 64) (not_got 3 at x) e in
    let z : number_symbol (s_step (direction_numbered d) (named k)) ≡ x = cc a.1 in
    let l = ltb-true k 64 (and_right (ltb d 2) _ a.0) in
    subst PlainSymbol z (plain (direction_numbered d) k l)
  where
    plain : (d : Direction) (k : ℕ) → k < 64 → PlainSymbol (number_symbol (s_step d (named k)))
    plain forward k h = (omega arith, refl)
    plain reverse k h = (omega arith, refl)

operator_plain : (at : ℕ) (b : List ℕ) (x : Numbered) → operator_of at b ≡ got x → PlainSymbol x
unfolding operator_of
operator_plain at b x e =
    let a = cond_then (leb 128 (get_or b 0 0) && leb (get_or b 0 0) 133) (not_got 3 at x) e in
    let z : numbered (get_or b 0 0) 0 ≡ x = cc a.1 in
    let h = leb-true (get_or b 0 0) 133 (and_right (leb 128 (get_or b 0 0)) _ a.0) in
    (omega (arith, ap (λ (y : Numbered). y.number) z), sym (ap (λ (y : Numbered). y.set) z))

pub symbol_plain : (at t : ℕ) (b : List ℕ) (x : Numbered) → 0x43 ≤ t → t ≤ 0x44 → symbol_in at t b ≡ got x → PlainSymbol x
unfolding symbol_in
symbol_plain at t b x low high e = by_tag (eqb t 0x43) (eqb t 0x44) refl refl e
  where
    by_tag : (p q : Bool) → eqb t 0x43 ≡ p → eqb t 0x44 ≡ q → cond p (step_of at b) (cond q (operator_of at b) (got (numbered 255 (eight b 0)))) ≡ got x → PlainSymbol x
    by_tag true q ep eq e = step_plain at b x e
    by_tag false true ep eq e = operator_plain at b x e
    by_tag false false ep eq e =
        let y : t ≡ 0x43 → ⊥ = eqb-false t 0x43 ep in
        let z : t ≡ 0x44 → ⊥ = eqb-false t 0x44 eq in
        absurd (omega (arith, low, high))

pub push_got : (q : Stack) (at next k : ℕ) (q' : Stack) → push q at next k ≡ got q' → (q'.left ≡ q.left - 1) × (q'.depth ≡ q.depth - k + 1)
unfolding push
push_got q at next k q' e =
    let a = cond_else (ltb q.depth k) (not_got 6 at q') e in
    let b = cond_else (eqb q.left 1 && not (eqb (q.depth - k + 1) 1)) (not_got 6 next q') a.1 in
    let h : record { left = q.left - 1; depth = q.depth - k + 1 } ≡ q' = cc b.1 in
    (sym (ap (λ (p : Stack). p.left) h), sym (ap (λ (p : Stack). p.depth) h))

-- where a symbol finds its operands, the places do not matter
pub push_anywhere : (q : Stack) (at next at' next' k : ℕ) (q' : Stack) → push q at next k ≡ got q' → push q at' next' k ≡ got q'
unfolding push
push_anywhere q at next at' next' k q' e =
    let a = cond_else (ltb q.depth k) (not_got 6 at q') e in
    let b = cond_else (eqb q.left 1 && not (eqb (q.depth - k + 1) 1)) (not_got 6 next q') a.1 in
    simp (a.0, b.0) b.1
