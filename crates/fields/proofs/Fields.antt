-- What is known where a field was found, and where the file's end was.
-- Assumes nothing.
use Rattle.std.specs.Prelude as std
use Rattle.std.specs.Prelude.{Option, Some, Ok, IfOk, IfSome}
use Prim.Native.Nat.{ℕ, ◌+◌, ◌<◌, ◌≤◌}
use mathlib.Core.Path.{◌≡◌, refl, ap, ◌∙◌, sym}
use mathlib.Core.Bool.{Bool, true, false, cond}
use mathlib.Core.List.{List}
use lib.ListN.{length, get_or, take, drop, length-take, length-drop}
use lib.Seq.{get_or-take, get_or-drop}
use lib.Dec.{leb, ltb}
use native.Mathlib.Omega.{arith}
use borrow.Author.Tests.{leb-true, ltb-false}
use Rattle.fields.specs.declared.File.{File}
use Rattle.fields.specs.declared.Due.{Due}
use Rattle.fields.specs.declared.Refusal.{Refusal}
use Rattle.fields.specs.declared.Found as declared·Found
use Rattle.fields.specs.Reading.{ends, wrong, body, field_at, due_rows, tags_due, fitting, beyond?, word}
use Rattle.fields.specs.Contract.{field_said, FoundAt}
use Rattle.fields.proofs.Rows.{OneOf, due_one}
use Rattle.fields.proofs.Bools.{cond_else, cond_then}
use Rattle.fields.proofs.Raws.{whole_body}

pub record Found (d : Due) (s : List ℕ) (at t n : ℕ) : Type 0 where
  pub fit : fitting d t n ≡ true
  pub room : at + 3 + n ≤ length s
  pub tag : get_or s at 0 ≡ t
  pub len : word s (at + 1) ≡ n

not_early : (b : Bool) (at t n : ℕ) → cond b ends (wrong 5 at) ≡ body t n → ⊥
not_early true at t n e = let z : ◌≡◌ {A = ℕ} 0 1 = cc in omega arith
not_early false at t n e = let z : ◌≡◌ {A = ℕ} 0 1 = cc in omega arith

not_wrong : (k p t n : ℕ) → wrong k p ≡ body t n → ⊥
not_wrong k p t n e = let z : ◌≡◌ {A = ℕ} 0 1 = cc in omega arith

pub found : (d : Due) (s : List ℕ) (at t n : ℕ) → field_at d s at ≡ body t n → Found d s at t n
unfolding field_at
found d s at t n e =
    let a = cond_else (leb (length s) at) (not_early d.complete at t n) e in
    let b = cond_else (beyond? d (get_or s at 0)) (not_wrong 5 at t n) a.1 in
    let c = cond_else (ltb (length s) (at + 3)) (not_wrong 1 at t n) b.1 in
    let f = cond_then (fitting d (get_or s at 0) (word s (at + 1))) (not_wrong 2 at t n) c.1 in
    let g = cond_else (ltb (length s) (at + 3 + word s (at + 1))) (not_wrong 1 at t n) f.1 in
    let ht : get_or s at 0 ≡ t = cc g.1 in
    let hn : word s (at + 1) ≡ n = cc g.1 in
    record { fit = rw (← ht, ← hn) f.0; room = rw (← hn) (ltb-false _ _ g.0); tag = ht; len = hn }

pub body_length : {d : Due} {s : List ℕ} {at t n : ℕ} → Found d s at t n → length (take n (drop (at + 3) s)) ≡ n
body_length r = let h = r.room in simp (length-take, length-drop) (omega arith)

-- ---- what the code hands out
-- a field at a place where d is due
pub record Handed (d : Due) (s : List ℕ) (at : ℕ) (f : declared·Found.Found) : Type 0 where
  pub here : f.at ≡ at
  pub seen : field_at d s at ≡ body f.tag (length f.body.now)
  pub body_is : f.body.now ≡ take (length f.body.now) (drop (at + 3) s)
  pub next : f.next ≡ at + 3 + length f.body.now
  pub room : f.next ≤ length s

module _ (s : List ℕ) (at : ℕ) {d e : Due} {a : std.Result (Option declared·Found.Found) Refusal} (p : d ≡ e) (q : field_said a ≡ field_at d s at) where
  pub seen_at : {x : std.Result (Option declared·Found.Found) Refusal} → a ≡ x → field_at e s at ≡ field_said x
  seen_at u = ap (λ (f : Due). field_at f s at) (sym p) ∙ sym q ∙ ap field_said u

  pub handed : IfOk a (λ r. IfSome r (FoundAt s at)) → {f : declared·Found.Found} → a ≡ Ok (Some f) → Handed e s at f
  handed h {f} u =
      let i = seen_at u in
      let r = found e s at f.tag (length f.body.now) i in
      let m = r.room in
      let k : FoundAt s at f = rw u at h in
      record { here = k.here; seen = i; body_is = k.body ∙ whole_body s at _ r.room r.len; next = k.next; room = omega (arith, k.next) }

-- it is one of the rows that are due
pub found_one : (f : File) (ts : List ℕ) (c b : Bool) {s : List ℕ} {at t n : ℕ} → Found (tags_due f ts c b) s at t n → (b ≡ false) × OneOf (due_rows (tags_due f ts c false)) t n
found_one f ts c b r = due_one f ts c b _ _ r.fit

wrong_not_ends : (k p : ℕ) → wrong k p ≡ ends → ⊥
wrong_not_ends k p e = let z : ◌≡◌ {A = ℕ} 0 1 = cc in omega arith

-- the file's end is found only at the end, and where it may be
pub record Ended (d : Due) (s : List ℕ) (at : ℕ) : Type 0 where
  pub may : d.complete ≡ true
  pub past : length s ≤ at

pub ended : (d : Due) (s : List ℕ) (at : ℕ) → field_at d s at ≡ ends → Ended d s at
unfolding field_at
ended d s at e = at_end (leb (length s) at) refl e
  where
    late : cond (beyond? d (get_or s at 0)) (wrong 5 at) (cond (ltb (length s) (at + 3)) (wrong 1 at) (cond (fitting d (get_or s at 0) (word s (at + 1)))
        (cond (ltb (length s) (at + 3 + word s (at + 1))) (wrong 1 at) (body (get_or s at 0) (word s (at + 1)))) (wrong 2 at))) ≡ ends → ⊥
    late e =
        let a = cond_else (beyond? d (get_or s at 0)) (wrong_not_ends 5 at) e in
        let b = cond_else (ltb (length s) (at + 3)) (wrong_not_ends 1 at) a.1 in
        let f = cond_then (fitting d (get_or s at 0) (word s (at + 1))) (wrong_not_ends 2 at) b.1 in
        let g = cond_else (ltb (length s) (at + 3 + word s (at + 1))) (wrong_not_ends 1 at) f.1 in
        let h = g.1 in
        let z : ◌≡◌ {A = ℕ} 0 1 = cc in omega arith

    at_end : (b : Bool) → leb (length s) at ≡ b → cond b (cond d.complete ends (wrong 5 at)) (cond (beyond? d (get_or s at 0)) (wrong 5 at) (cond (ltb (length s) (at + 3)) (wrong 1 at)
        (cond (fitting d (get_or s at 0) (word s (at + 1))) (cond (ltb (length s) (at + 3 + word s (at + 1))) (wrong 1 at) (body (get_or s at 0) (word s (at + 1)))) (wrong 2 at)))) ≡ ends
        → Ended d s at
    at_end true q e = record { may = (cond_then d.complete (wrong_not_ends 5 at) e).0; past = leb-true (length s) at q }
    at_end false q e = absurd (late e)

-- a byte of a body is a byte of the file
pub body_get : (s : List ℕ) (a n i j : ℕ) → i < n → a + i ≡ j → get_or (take n (drop a s)) i 0 ≡ get_or s j 0
body_get s a n i j h e = get_or-take n (drop a s) i 0 h ∙ get_or-drop a s i 0 ∙ ap (λ (k : ℕ). get_or s k 0) e
