-- Induction over the fields of a file that was accepted.
-- Assumes nothing.
use Prim.Native.Nat.{ℕ, suc, zero, ◌+◌}
use mathlib.Core.Path.{◌≡◌, refl, ap, ◌∙◌}
use mathlib.Core.List.{List}
use lib.ListN.{take, drop}
use native.Mathlib.Omega.{arith}
use Rattle.theory.specs.Result.{Result, got, refused, onward}
use Rattle.fields.specs.Reading.{Field, ends, wrong, body, field_at, Form, after, walk, Format, form}
use Rattle.fields.proofs.Bools.{onward_got, got_same}

module _ (F : Form) (s : List ℕ) (P : F.State → ℕ → F.Value → Type 0)
    (at_end : (st : F.State) (at : ℕ) → field_at (F.due st) s at ≡ ends → P st at (F.value st))
    (at_body : (st : F.State) (at t n : ℕ) (st' : F.State) (v : F.Value) → field_at (F.due st) s at ≡ body t n
    → F.judge st at (at + 3 + n) t (take n (drop (at + 3) s)) ≡ got st' → P st' (at + 3 + n) v → P st at v) where
  by_judge : (k : ℕ) (st : F.State) (at t n : ℕ) (v : F.Value) → field_at (F.due st) s at ≡ body t n
      → ((st' : F.State) (at' : ℕ) (v : F.Value) → walk F s k st' at' ≡ got v → P st' at' v)
      → (a : Result F.State) → F.judge st at (at + 3 + n) t (take n (drop (at + 3) s)) ≡ a
      → onward (λ st'. walk F s k st' (at + 3 + n)) a ≡ got v → P st at v
  by_judge k st at t n v e ih (got st') j h = at_body st at t n st' v e j (ih st' (at + 3 + n) v h)
  by_judge k st at t n v e ih (refused m p) j h = let z : ◌≡◌ {A = ℕ} 0 1 = cc in absurd (omega arith)

  by_field : (k : ℕ) (st : F.State) (at : ℕ) (v : F.Value)
      → ((st' : F.State) (at' : ℕ) (v : F.Value) → walk F s k st' at' ≡ got v → P st' at' v)
      → (d : Field) → field_at (F.due st) s at ≡ d → after F s (λ st' at'. walk F s k st' at') st at d ≡ got v → P st at v
  by_field k st at v ih ends e h = let z : F.value st ≡ v = cc in rw (← z) (at_end st at e)
  by_field k st at v ih (wrong n p) e h = let z : ◌≡◌ {A = ℕ} 0 1 = cc in absurd (omega arith)
  by_field k st at v ih (body t n) e h = by_judge k st at t n v e ih (F.judge st at (at + 3 + n) t (take n (drop (at + 3) s))) refl h

  pub accepted_ind : (k : ℕ) (st : F.State) (at : ℕ) (v : F.Value) → walk F s k st at ≡ got v → P st at v
  unfolding walk
  accepted_ind zero st at v h = let z : ◌≡◌ {A = ℕ} 0 1 = cc in absurd (omega arith)
  accepted_ind (suc k) st at v h = by_field k st at v (accepted_ind k) (field_at (F.due st) s at) refl h

-- ---- a field of a format's file, by its two steps
pub record Taken (F : Format) (c : F.Control) (k : F.Kept) (at next t : ℕ) (b : List ℕ) (st : F.Control × F.Kept) : Type 0 where
  pub item : F.Item
  pub judged : F.judge c at next t b ≡ got (st.0, item)
  pub kept : F.keep k item ≡ got st.1

pub taken : (F : Format) (c : F.Control) (k : F.Kept) (at next t : ℕ) (b : List ℕ) (st : F.Control × F.Kept) → (form F).judge (c, k) at next t b ≡ got st
    → Taken F c k at next t b st
taken F c k at next t b st e =
    let ((c', i), j, w) = onward_got (λ (p : F.Control × F.Item). onward (λ (k' : F.Kept). got (p.0, k')) (F.keep k p.1)) (F.judge c at next t b) st e in
    let (k', h, v) = onward_got (λ (x : F.Kept). got (c', x)) (F.keep k i) st w in
    let z : (c', k') ≡ st = got_same v in
    record { item = i; judged = j ∙ ap (λ (x : F.Control × F.Kept). got (x.0, i)) z; kept = h ∙ ap (λ (x : F.Control × F.Kept). got x.1) z }
