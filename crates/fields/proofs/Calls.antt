-- The frame of a call: what it returns where a file is refused, where the work area is short, and otherwise; and, from an outcome that is
-- accepted, that none of these refused.
-- Assumes nothing.
use mathlib.Core.Path.{◌≡◌, refl, sym, ap, subst, ◌∙◌}
use mathlib.Core.Bool.{Bool, true, false}
use mathlib.Core.List.{List}
use Prim.Native.Nat.{ℕ, ◌≤◌, ◌<◌}
use native.Mathlib.Omega.{arith}
use lib.Dec.{ltb}
use lib.ListN.{length}
use borrow.Author.Tests.{lt-ltb, le-ltb, ltb-false}
use Rattle.theory.specs.Result.{Result, got, refused}
use Rattle.std.specs.Prelude as std
use Rattle.std.specs.Prelude.{Ok, Err}
use Rattle.std.specs.Borrow.{Bor}
use Rattle.fields.specs.declared.Source.{Source}
use Rattle.fields.specs.declared.Refusal.{Refusal}
use Rattle.fields.specs.declared.Failure.{Failure}
use Rattle.fields.specs.Contract.{failure, about_of, AboutRef, read_said, call_said}
use Rattle.fields.specs.declared.Source.TheVariants as source
use Rattle.fields.specs.Call.{Outcome, accepts, refuses, about, and_then, Output, Gives, Task, returned, Returns, zeroed, performed, call}

-- ---- a refusal is not accepted
pub not_accepted : {A B : Type 0} (x : Source) (n p : ℕ) (z : A) → ◌≡◌ {A = Outcome A} (refuses x n p) (accepts z) → B
not_accepted x n p z e = let w : ◌≡◌ {A = ℕ} 0 1 = cc in absurd (omega arith)

pub about_accepted : {A : Type 0} (s : Source) (r : Result A) (x : A) → about s r ≡ accepts x → r ≡ got x
about_accepted s (got y) x e = cc
about_accepted s (refused n p) x e = not_accepted s n p x e

-- ---- a reader's result, with what it is about, and back
module _ {A : Type 0} (s : Source) (a : std.Result A Refusal) where
  pub about_said : {B : Type 0} (f : A → B) → call_said f (about_of s a) ≡ about s (read_said f a)
  about_said f = by_result a
    where
      by_result : (a : std.Result A Refusal) → call_said f (about_of s a) ≡ about s (read_said f a)
      by_result (Ok x) = refl
      by_result (Err r) = refl

  module _ {b : std.Result A Failure} (e : b ≡ about_of s a) where
    pub about_ok : {x : A} → b ≡ Ok x → a ≡ Ok x
    about_ok {x} h = by_result a (sym e ∙ h)
      where
        by_result : (a : std.Result A Refusal) → about_of s a ≡ Ok x → a ≡ Ok x
        by_result (Ok y) h = cc
        by_result (Err r) h = let w : ◌≡◌ {A = ℕ} 0 1 = cc in absurd (omega arith)

    pub about_err : {x : Failure} → b ≡ Err x → (x.source ≡ s) × (a ≡ Err x.refusal)
    about_err {x} h = by_result a (sym e ∙ h)
      where
        by_result : (a : std.Result A Refusal) → about_of s a ≡ Err x → (x.source ≡ s) × (a ≡ Err x.refusal)
        by_result (Ok y) h = let w : ◌≡◌ {A = ℕ} 0 1 = cc in absurd (omega arith)
        by_result (Err r) h = let w : failure s r ≡ x = cc in (sym (ap (λ (z : Failure). z.source) w), ap (λ (z : Failure). Err z.refusal) w)

  module _ {b : std.Result (Bor A) Failure} (e : AboutRef s a b) where
    pub about_ref_ok : {y : Bor A} → b ≡ Ok y → a ≡ Ok y.now
    about_ref_ok {y} h = by_result a (subst (AboutRef s a) h e)
      where
        by_result : (a : std.Result A Refusal) → AboutRef s a (Ok y) → a ≡ Ok y.now
        by_result (Ok x) h = ap Ok (sym h)
        by_result (Err r) h = let w : ◌≡◌ {A = ℕ} 0 1 = cc in absurd (omega arith)

    pub about_ref_err : {x : Failure} → b ≡ Err x → (x.source ≡ s) × (a ≡ Err x.refusal)
    about_ref_err {x} h = by_result a (subst (AboutRef s a) h e)
      where
        by_result : (a : std.Result A Refusal) → AboutRef s a (Err x) → (x.source ≡ s) × (a ≡ Err x.refusal)
        by_result (Ok y) h = absurd h
        by_result (Err r) h = let w : x ≡ failure s r = cc in (ap (λ (z : Failure). z.source) w, sym (ap (λ (z : Failure). Err z.refusal) w))

-- ---- 15, or what the call does
module _ {A R : Type 0} (t : Task A R) (work : List ℕ) (areas : R) where
  pub performed_15 : {n : ℕ} → n ≡ t.need → length work < n → Returns (performed t work areas) (refuses source.Work 15 n) work areas
  unfolding performed
  performed_15 e l = record { is = rw (lt-ltb (length work) t.need (rw e at l), e) }

  pub performed_rest : t.need ≤ length work → performed t work areas ≡ returned (t.run areas).outcome (zeroed t.need work) (t.run areas).areas
  unfolding performed
  performed_rest l = rw (le-ltb (length work) t.need l)

  -- it was done, and the work words are zero
  pub performed_done : {o : Outcome A} {work' : List ℕ} {areas' : R} → t.need ≤ length work → Gives (t.run areas) o areas' → work' ≡ zeroed t.need work
      → Returns (performed t work areas) o work' areas'
  performed_done {work' = work'} l g z = record { is = ap (λ (x : Output A R). returned x.outcome work' x.areas) g.is ∙ rw (performed_rest l, z) }

  -- accepted: 15 was not said
  pub performed_accepted : {x : A} → (performed t work areas).outcome ≡ accepts x → t.need ≤ length work
  unfolding performed
  performed_accepted {x} e = by_room (ltb (length work) t.need) refl
    where
      by_room : (b : Bool) → ltb (length work) t.need ≡ b → t.need ≤ length work
      by_room true h = not_accepted source.Work 15 t.need x (rw h at e)
      by_room false h = ltb-false (length work) t.need h

-- ---- a call that is accepted has read its files: two of them, three of them
module _ {A B C R : Type 0} (s t : Source) (work : List ℕ) (areas : R) {x : C} where
  pub two_read : (a : Result A) (b : Result B) (g : A → B → Task C R)
      → (call (and_then (about s a) (λ u. and_then (about t b) (λ v. accepts (g u v)))) work areas).outcome ≡ accepts x
      → (u : A) × (v : B) × (a ≡ got u) × (b ≡ got v)
  two_read (refused n p) b g e = not_accepted s n p x e
  two_read (got u) (refused n p) g e = not_accepted t n p x e
  two_read (got u) (got v) g e = (u, v, refl, refl)

  pub three_read : {D : Type 0} (z : Source) (c : Result D) (a : Result A) (b : Result B) (g : D → A → B → Task C R)
      → (call (and_then (about z c) (λ w. and_then (about s a) (λ u. and_then (about t b) (λ v. accepts (g w u v))))) work areas).outcome ≡ accepts x
      → (w : D) × (u : A) × (v : B) × (c ≡ got w) × (a ≡ got u) × (b ≡ got v)
  three_read z (refused n p) a b g e = not_accepted z n p x e
  three_read z (got w) a b g e =
      let (u, v, ea, eb) = two_read a b (g w) e in
      (w, u, v, refl, ea, eb)
