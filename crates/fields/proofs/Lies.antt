-- Fields as bytes, both ways: a field that was found is those bytes, and bytes that lie at a place are found there.
-- Assumes nothing.
use Prim.Native.Nat.{ℕ, suc, ◌+◌, ◌/◌, ◌%◌, ◌-◌, ◌<◌}
use mathlib.Core.Path.{◌≡◌, ap, ap₂, ◌∙◌, sym}
use mathlib.Core.Bool.{true}
use mathlib.Core.List.{List, [], ◌∷◌, ◌++◌}
use lib.ListN.{length, get_or, take, drop, take-append-drop, length-append, length-drop}
use lib.Seq.{drop-cons, drop-drop, get_or-drop, take-append_seam, drop-append_seam}
use native.Mathlib.Omega.{arith}
use borrow.Author.Tests.{le-ltb, lt-leb, le-leb}
use Rattle.fields.specs.declared.Due.{Due}
use Rattle.fields.specs.Reading.{word, ends, body, fitting, field_at}
use Rattle.fields.proofs.Rows.{fits_within}
use Rattle.fields.proofs.Fields.{Found, body_length}
use Rattle.fields.specs.Writing.{Bytes, two_bytes, field_bytes}

-- ---- a field that was found: its bytes, and what comes after
module _ (d : Due) (s : List ℕ) (at t n : ℕ) (h : Bytes s) (f : Found d s at t n) where
  pub field_split : drop at s ≡ field_bytes t (take n (drop (at + 3) s)) ++ drop (at + 3 + n) s
  field_split =
      let b = take n (drop (at + 3) s) in
      let room = f.room in
      let hl : word s (at + 1) ≡ n = f.len in
      let p : get_or s (at + 1) 0 ≡ n / 256 = omega (arith, h (at + 1), h (at + 1 + 1)) in
      let q : get_or s (at + 1 + 1) 0 ≡ n % 256 = omega (arith, h (at + 1), h (at + 1 + 1)) in
      let i1 : suc at ≡ at + 1 = omega arith in
      let i2 : suc (at + 1) ≡ at + 1 + 1 = omega arith in
      let i3 : suc (at + 1 + 1) ≡ at + 3 = omega arith in
      drop-cons s at 0 (omega arith)
      ∙ ap₂ (λ (x : ℕ) (j : ℕ). x ∷ drop j s) f.tag i1
      ∙ ap (λ (l : List ℕ). t ∷ l) (
      drop-cons s (at + 1) 0 (omega arith)
      ∙ ap₂ (λ (x : ℕ) (j : ℕ). x ∷ drop j s) p i2
      ∙ ap (λ (l : List ℕ). n / 256 ∷ l) (
      drop-cons s (at + 1 + 1) 0 (omega arith)
      ∙ ap₂ (λ (x : ℕ) (j : ℕ). x ∷ drop j s) q i3
      ∙ ap (λ (l : List ℕ). n % 256 ∷ l) (sym (take-append-drop n (drop (at + 3) s)) ∙ ap (λ (l : List ℕ). b ++ l) (drop-drop n (at + 3) s))))
      ∙ ap (λ (m : ℕ). t ∷ (two_bytes m ++ b) ++ drop (at + 3 + n) s) (sym (body_length f))

-- ---- a field that lies at a place is found there
-- a byte of what lies there
lies_get : (s l : List ℕ) (at i j : ℕ) → drop at s ≡ l → at + i ≡ j → get_or s j 0 ≡ get_or l i 0
lies_get s l at i j e h = ap (λ (k : ℕ). get_or s k 0) (sym h) ∙ sym (get_or-drop at s i 0) ∙ ap (λ (m : List ℕ). get_or m i 0) e

pub record Lies (d : Due) (s : List ℕ) (at t : ℕ) (b r : List ℕ) : Type 0 where
  pub seen : field_at d s at ≡ body t (length b)
  pub inner : take (length b) (drop (at + 3) s) ≡ b
  pub after : drop (at + 3 + length b) s ≡ r

pub field_lies : (d : Due) (s : List ℕ) (at t : ℕ) (b r : List ℕ) → drop at s ≡ field_bytes t b ++ r → length b < 65536 → fitting d t (length b) ≡ true → Lies d s at t b r
unfolding field_at
field_lies d s at t b r e l f =
    let n = length b in
    let hl : length s - at ≡ 3 + (n + length r) = omega (arith, length-drop at s, ap length e, length-append b r) in
    let ht : get_or s at 0 ≡ t = lies_get s (field_bytes t b ++ r) at 0 at e (omega arith) in
    let h1 : get_or s (at + 1) 0 ≡ n / 256 = lies_get s (field_bytes t b ++ r) at 1 (at + 1) e (omega arith) in
    let h2 : get_or s (at + 1 + 1) 0 ≡ n % 256 = lies_get s (field_bytes t b ++ r) at 2 (at + 1 + 1) e (omega arith) in
    let hw : word s (at + 1) ≡ n = omega arith in
    let h3 : drop (at + 3) s ≡ b ++ r = sym (drop-drop 3 at s) ∙ ap (drop 3) e in
    record {
      seen = simp (lt-leb (length s) at (omega arith), ht, hw, fits_within d t n f, le-ltb (length s) (at + 3) (omega arith), f, le-ltb (length s) (at + 3 + n) (omega arith));
      inner = ap (take n) h3 ∙ take-append_seam b r;
      after = sym (drop-drop n (at + 3) s) ∙ ap (drop n) h3 ∙ drop-append_seam b r;
    }

-- the file's end
pub ends_lie : (d : Due) (s : List ℕ) (at : ℕ) → drop at s ≡ [] → d.complete ≡ true → field_at d s at ≡ ends
unfolding field_at
ends_lie d s at e h = simp (le-leb (length s) at (omega (arith, length-drop at s, ap length e)), h)
