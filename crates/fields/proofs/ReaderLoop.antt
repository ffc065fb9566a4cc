-- The loop of a reader, for every kind of file: what holds at its head, and what follows from what the field there is.
-- `A` is the answer that is sought; a reader that starts at the file's beginning takes `read F s`.
-- Assumes nothing.
use Prim.Native.Nat.{ℕ, suc, zero, ◌+◌, ◌<◌, ◌≤◌}
use mathlib.Core.Path.{◌≡◌, refl, sym, ap, ap₂, subst, ◌∙◌}
use mathlib.Core.List.{List}
use lib.ListN.{length, take, drop}
use native.Mathlib.Omega.{arith}
use Rattle.theory.specs.Result.{Result, got, refused, onward}
use Rattle.fields.specs.Reading.{Field, ends, wrong, body, field_at, Form, after, walk, read}
use Rattle.fields.specs.declared.Found as declared·Found
use Rattle.fields.proofs.Fields.{found, Handed}

-- a number above 0 is a successor
pub suc_of : (k : ℕ) → 0 < k → (j : ℕ) × (k ≡ suc j)
suc_of zero h = absurd (omega arith)
suc_of (suc j) h = (j, refl)

pub record Going (F : Form) (s : List ℕ) (A : Result F.Value) (st : F.State) (at : ℕ) : Type 0 where
  pub k : ℕ
  pub fuel : length s ≤ k + at
  pub inside : at ≤ length s
  pub rest : A ≡ walk F s (suc k) st at

pub going_start : (F : Form) (s : List ℕ) → Going F s (read F s) F.start 0
unfolding read
going_start F s = record { k = length s; fuel = omega arith; inside = omega arith; rest = refl }

module _ (F : Form) (s : List ℕ) (A : Result F.Value) (st : F.State) (at : ℕ) (g : Going F s A st at) where
  going_field : (d : Field) → field_at (F.due st) s at ≡ d → A ≡ after F s (λ st' at'. walk F s g.k st' at') st at d
  unfolding walk
  going_field d e = g.rest ∙ ap (after F s (λ st' at'. walk F s g.k st' at') st at) e

  pub going_ends : field_at (F.due st) s at ≡ ends → A ≡ got (F.value st)
  going_ends e = going_field ends e

  pub going_wrong : (n p : ℕ) → field_at (F.due st) s at ≡ wrong n p → A ≡ refused n p
  going_wrong n p e = going_field (wrong n p) e

  module _ (t n : ℕ) (e : field_at (F.due st) s at ≡ body t n) where
    going_judge : (a : Result F.State) → F.judge st at (at + 3 + n) t (take n (drop (at + 3) s)) ≡ a
        → A ≡ onward (λ st'. walk F s g.k st' (at + 3 + n)) a
    going_judge a j = going_field (body t n) e ∙ ap (onward (λ st'. walk F s g.k st' (at + 3 + n))) j

    pub going_refused : (m p : ℕ) → F.judge st at (at + 3 + n) t (take n (drop (at + 3) s)) ≡ refused m p → A ≡ refused m p
    going_refused m p j = going_judge (refused m p) j

    pub going_more : (st' : F.State) → F.judge st at (at + 3 + n) t (take n (drop (at + 3) s)) ≡ got st' → Going F s A st' (at + 3 + n)
    going_more st' j =
        let r = (found (F.due st) s at t n e).room in
        let (i, h) = suc_of g.k (omega arith) in
        record { k = i; fuel = omega arith; inside = r; rest = going_judge (got st') j ∙ ap (λ (z : ℕ). walk F s z st' (at + 3 + n)) h }

  -- the same by what the code hands out: the field f, judged by its parts
  module _ {f : declared·Found.Found} (h : Handed (F.due st) s at f) where
    judged : F.judge st at (at + 3 + length f.body.now) f.tag (take (length f.body.now) (drop (at + 3) s)) ≡ F.judge st f.at f.next f.tag f.body.now
    judged =
        ap₂ (λ (n : ℕ) (b : List ℕ). F.judge st at n f.tag b) (sym h.next) (sym h.body_is)
        ∙ ap (λ (k : ℕ). F.judge st k f.next f.tag f.body.now) (sym h.here)

    pub handed_refused : (m p : ℕ) → F.judge st f.at f.next f.tag f.body.now ≡ refused m p → A ≡ refused m p
    handed_refused m p j = going_refused f.tag (length f.body.now) h.seen m p (judged ∙ j)

    pub handed_more : (st' : F.State) → F.judge st f.at f.next f.tag f.body.now ≡ got st' → Going F s A st' f.next
    handed_more st' j = subst (λ (n : ℕ). Going F s A st' n) (sym h.next) (going_more f.tag (length f.body.now) h.seen st' (judged ∙ j))
