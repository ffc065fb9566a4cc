-- The field at a place in two steps is the definition; and a whole field has room, and any other has no body.
-- Assumes nothing.
use Prim.Native.Nat.{ℕ, ◌+◌, ◌-◌, ◌≤◌}
use mathlib.Core.Bool.{Bool, true, false, cond}
use mathlib.Core.Path.{◌≡◌, refl, sym, ap, ◌∙◌}
use mathlib.Core.Logic.{◌⊎◌, inl, inr}
use mathlib.Core.List.{List, []}
use lib.ListN.{length, get_or, take, drop, length-take, length-drop}
use lib.Dec.{ltb, leb}
use native.Mathlib.Omega.{arith}
use native.Mathlib.Nat.{add-sub_cancel_left}
use borrow.Author.Tests.{ltb-false, lt-leb, le-ltb}
use Rattle.fields.specs.declared.Due.{Due}
use Rattle.fields.specs.Reading.{word, fitting, beyond?, field_at, Field, ends, wrong, body}
use Rattle.fields.specs.Contract.{Refused}
use Rattle.fields.proofs.Bools.{cond_else}
use Rattle.fields.specs.declared.Raw.{Raw}
use Rattle.fields.specs.declared.Raw.TheVariants.{Whole, Short, Cut, End}
use Rattle.fields.specs.Raw.{raw_at, body_of, body_in, judged}

pub field_room : (s : List ℕ) (at t n : ℕ) → raw_at s at ≡ Whole t n → at + 3 + n ≤ length s
unfolding raw_at
field_room s at t n e =
    let a = cond_else (leb (length s) at) (λ e. let z : ◌≡◌ {A = ℕ} 0 1 = cc in omega arith) e in
    let b = cond_else (ltb (length s) (at + 3)) (λ e. let z : ◌≡◌ {A = ℕ} 0 1 = cc in omega arith) a.1 in
    let c = cond_else (ltb (length s) (at + 3 + word s (at + 1))) (λ e. let z : ◌≡◌ {A = ℕ} 0 1 = cc in omega arith) b.1 in
    let h : word s (at + 1) ≡ n = cc c.1 in
    rw (← h) (ltb-false _ _ c.0)

-- which its body is a part of
pub whole_body : (s : List ℕ) (at n : ℕ) → at + 3 + n ≤ length s → word s (at + 1) ≡ n → body_in s at ≡ take n (drop (at + 3) s)
unfolding body_in raw_at
whole_body s at n h e =
    simp (lt-leb (length s) at (omega arith), le-ltb (length s) (at + 3) (omega arith), e, le-ltb (length s) (at + 3 + n) h)

pub body_whole : (s : List ℕ) (at : ℕ) (r : Raw) {t n : ℕ} → r ≡ raw_at s at → r ≡ Whole t n → body_in s at ≡ take n (drop (at + 3) s)
unfolding body_in
body_whole s at r e u = ap (body_of s at) (sym e ∙ u)

pub part_length : (s : List ℕ) (at n : ℕ) → at + 3 + n ≤ length s → length (take (at + 3 + n - (at + 3)) (drop (at + 3) s)) ≡ n
part_length s at n h = simp (add-sub_cancel_left, length-take, length-drop) (omega arith)

-- any other has no body
pub no_body : (s : List ℕ) (at : ℕ) (r : Raw) → r ≡ raw_at s at → ((t n : ℕ) → r ≡ Whole t n → ⊥) → body_of s at (raw_at s at) ≡ []
no_body s at r e h = ap (body_of s at) (sym e) ∙ by_raw r h
  where
    by_raw : (r : Raw) → ((t n : ℕ) → r ≡ Whole t n → ⊥) → body_of s at r ≡ []
    by_raw (Whole t n) h = absurd (h t n refl)
    by_raw (Short t n) h = refl
    by_raw (Cut t) h = refl
    by_raw End h = refl

-- the field at a place and the judgement of what is due make up the definition
by_tests : (d : Due) (at t n : ℕ) (a b c : Bool)
    → judged d at (cond a End (cond b (Cut t) (cond c (Short t n) (Whole t n))))
    ≡ cond a (cond d.complete ends (wrong 5 at)) (cond (beyond? d t) (wrong 5 at) (cond b (wrong 1 at) (cond (fitting d t n) (cond c (wrong 1 at) (body t n)) (wrong 2 at))))
by_tests d at t n true b c = refl
by_tests d at t n false true c = refl
by_tests d at t n false false true = refl
by_tests d at t n false false false = refl

pub judged_is : (d : Due) (s : List ℕ) (at : ℕ) → judged d at (raw_at s at) ≡ field_at d s at
unfolding raw_at field_at
judged_is d s at = by_tests d at (get_or s at 0) (word s (at + 1)) (leb (length s) at) (ltb (length s) (at + 3)) (ltb (length s) (at + 3 + word s (at + 1)))

-- ---- no field that is due: one of two refusals is told
told_wrong : {f : Field} (i j p : ℕ) (b : Bool) → f ≡ cond b (wrong i p) (wrong j p) → (f ≡ ends → ⊥) × ((t n : ℕ) → f ≡ body t n → ⊥)
told_wrong i j p true e = (λ h. let g = sym e ∙ h in let z : ◌≡◌ {A = ℕ} 0 1 = cc in omega arith, λ t n h. let g = sym e ∙ h in let z : ◌≡◌ {A = ℕ} 0 1 = cc in omega arith)
told_wrong i j p false e = (λ h. let g = sym e ∙ h in let z : ◌≡◌ {A = ℕ} 0 1 = cc in omega arith, λ t n h. let g = sym e ∙ h in let z : ◌≡◌ {A = ℕ} 0 1 = cc in omega arith)

module _ (d : Due) (s : List ℕ) (at : ℕ) {r : Raw} (e : r ≡ raw_at s at) where
  pub judged_at : {x : Raw} → r ≡ x → field_at d s at ≡ judged d at x
  judged_at u = sym (judged_is d s at) ∙ ap (judged d at) (sym e ∙ u)

  -- of one that has a tag and a length: its body is past the end or is there
  pub judged_headed : {t n : ℕ} → (r ≡ Short t n) ⊎ (r ≡ Whole t n)
      → (b : Bool) × (field_at d s at ≡ cond (beyond? d t) (wrong 5 at) (cond (fitting d t n) (cond b (wrong 1 at) (body t n)) (wrong 2 at)))
  judged_headed (inl u) = (true, judged_at u)
  judged_headed (inr u) = (false, judged_at u)

  pub refused_end : r ≡ End → d.complete ≡ false → Refused d s at
  refused_end u c = told_wrong 5 5 at true (judged_at u ∙ rw c)

  pub refused_whole : {t n : ℕ} → r ≡ Whole t n → fitting d t n ≡ false → Refused d s at
  refused_whole {t} u f = told_wrong 5 2 at (beyond? d t) (judged_at u ∙ rw f)

  pub refused_short : ((t n : ℕ) → r ≡ Whole t n → ⊥) → (r ≡ End → ⊥) → Refused d s at
  refused_short h g = by_raw r refl
    where
      by_raw : (x : Raw) → r ≡ x → Refused d s at
      by_raw End u = absurd (g u)
      by_raw (Whole t n) u = absurd (h t n u)
      by_raw (Cut t) u = told_wrong 5 1 at (beyond? d t) (judged_at u)
      by_raw (Short t n) u = by_fit (fitting d t n) refl
        where
          by_fit : (b : Bool) → fitting d t n ≡ b → Refused d s at
          by_fit true f = told_wrong 5 1 at (beyond? d t) (judged_at u ∙ rw f)
          by_fit false f = told_wrong 5 2 at (beyond? d t) (judged_at u ∙ rw f)

-- and back: what is told where there is none
pub not_ended : {f : Field} {k p : ℕ} (b : Bool) → f ≡ cond b ends (wrong k p) → (f ≡ ends → ⊥) → wrong k p ≡ f
not_ended true e h = absurd (h e)
not_ended false e h = sym e

pub not_whole : {f : Field} {k p : ℕ} (t n : ℕ) (b : Bool) → f ≡ cond b (wrong k p) (body t n) → ((t n : ℕ) → f ≡ body t n → ⊥) → wrong k p ≡ f
not_whole t n true e h = sym e
not_whole t n false e h = absurd (h t n e)
