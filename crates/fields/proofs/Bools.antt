-- Tests that came out one way, taken apart; and answers that were got.
-- Assumes nothing.
use mathlib.Core.Path.{◌≡◌, refl, sym, ap}
use mathlib.Core.Logic.{◌⊎◌, inl, inr}
use mathlib.Core.Bool.{Bool, true, false, cond, not, ◌&&◌, and-false, false≢true}
use Prim.Native.Nat.{ℕ}
use native.Mathlib.Omega.{arith}
use lib.Dec.{eqb}
use borrow.Author.Tests.{ne_eqb}
use Rattle.theory.specs.Result.{Result, got, refused, onward}

-- a choice that is z, where one side is not z
pub cond_else : {A : Type 0} (b : Bool) {x y z : A} → (x ≡ z → ⊥) → cond b x y ≡ z → (b ≡ false) × (y ≡ z)
cond_else true n e = absurd (n e)
cond_else false n e = (refl, e)

pub cond_then : {A : Type 0} (b : Bool) {x y z : A} → (y ≡ z → ⊥) → cond b x y ≡ z → (b ≡ true) × (x ≡ z)
cond_then true n e = (refl, e)
cond_then false n e = absurd (n e)

pub and_left : (a b : Bool) → (a && b) ≡ true → a ≡ true
and_left true b e = refl
and_left false b e = e

pub and_right : (a b : Bool) → (a && b) ≡ true → b ≡ true
and_right true b e = e
and_right false b e = absurd (false≢true e)

-- a test of two, by how the code fell through it
pub fell_through : {a b : Bool} → ((a ≡ true) × (b ≡ true)) ⊎ (a ≡ false) → (a && not b) ≡ false
fell_through (inl (p, q)) = rw (p, q)
fell_through (inr p) = rw p

pub went_in : {b : Bool} {m n : ℕ} → (b ≡ false) ⊎ ((b ≡ true) × (m ≡ n → ⊥)) → (eqb m n && b) ≡ false
went_in {m = m} {n = n} (inl p) = rw (p, and-false (eqb m n))
went_in {m = m} {n = n} (inr (p, q)) = rw (p, ne_eqb m n q)

pub not_got : {A : Type 0} (n p : ℕ) (x : A) → refused n p ≡ got x → ⊥
not_got n p x e = let z : ◌≡◌ {A = ℕ} 0 1 = cc in omega arith

pub got_same : {A : Type 0} {x y : A} → got x ≡ got y → x ≡ y
got_same e = cc

pub got_both : {A B : Type 0} {x y : A} {u v : B} → ◌≡◌ {A = Result (A × B)} (got (x, u)) (got (y, v)) → (x ≡ y) × (u ≡ v)
got_both {A} {B} e = let z = got_same e in (ap (λ (p : A × B). p.0) z, ap (λ (p : A × B). p.1) z)

-- a chain of two that came to a value
pub onward_got : {A B : Type 0} (f : A → Result B) (a : Result A) (y : B) → onward f a ≡ got y → (x : A) × (a ≡ got x) × (f x ≡ got y)
onward_got f (got x) y e = (x, refl, e)
onward_got f (refused n p) y e = absurd (not_got n p y e)

pub not_refused : {A B : Type 0} (x : A) (i j : ℕ) → got x ≡ refused i j → B
not_refused x i j e = let z : ◌≡◌ {A = ℕ} 0 1 = cc in absurd (omega arith)

-- an answer of whose value a part is told is refused where that is
pub told_refused : {A B : Type 0} (f : A → B) (a : Result A) (n p : ℕ) → refused n p ≡ onward (λ x. got (f x)) a → a ≡ refused n p
told_refused f (got x) n p e = not_refused (f x) n p (sym e)
told_refused f (refused m q) n p e = cc
