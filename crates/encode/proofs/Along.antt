-- One writing after another.
-- Assumes nothing.
use Prim.Native.Nat.{ℕ, ◌+◌, ◌≤◌}
use mathlib.Core.Path.{◌≡◌, refl, ap, ap₂, ◌∙◌, sym, subst}
use mathlib.Core.List.{List, [], ◌++◌, append_assoc, append-nil}
use lib.ListN.{length, length-append}
use lib.Seq.{sets, length-sets}
use native.Mathlib.Omega.{arith}
use Rattle.theory.proofs.Lists.{sets_append}
use Rattle.encode.specs.BytesWritten.{BytesWritten}

pub wrote_length : {a b : List ℕ} {at next : ℕ} {u : List ℕ} → BytesWritten a b at next u → length b ≡ length a
wrote_length {a} {b} {at} {next} {u} w = ap length w.area ∙ length-sets a at u

pub wrote_more : {a b c : List ℕ} {at x y : ℕ} {u v : List ℕ} → BytesWritten a b at x u → BytesWritten b c x y v → BytesWritten a c at y (u ++ v)
wrote_more {a} {b} {c} {at} {x} {y} {u} {v} p q = record {
  area = q.area ∙ ap₂ (λ (l : List ℕ) (i : ℕ). sets l i v) p.area p.next_is ∙ sets_append u v a at;
  next_is = omega (arith, p.next_is, q.next_is, length-append u v);
}

-- of the bytes of the whole, those before the rest were written
pub record Along (before after : List ℕ) (at next : ℕ) (whole rest : List ℕ) : Type 0 where
  pub done : List ℕ
  pub wrote : BytesWritten before after at next done
  pub are : done ++ rest ≡ whole

pub along_start : (o : List ℕ) (at : ℕ) (whole : List ℕ) → Along o o at at whole whole
along_start o at whole = record { done = []; wrote = record { area = refl; next_is = omega arith }; are = refl }

pub along_more : {o a b : List ℕ} {at x y : ℕ} {whole rest : List ℕ} (u r : List ℕ) → Along o a at x whole rest → rest ≡ u ++ r → BytesWritten a b x y u → Along o b at y whole r
along_more {o} {a} {b} {at} {x} {y} {whole} {rest} u r p e q = record {
  done = p.done ++ u;
  wrote = wrote_more p.wrote q;
  are = append_assoc p.done u r ∙ ap (λ (l : List ℕ). p.done ++ l) (sym e) ∙ p.are;
}

pub along_end : {o a : List ℕ} {at x : ℕ} {whole rest : List ℕ} → Along o a at x whole rest → rest ≡ [] → BytesWritten o a at x whole
along_end {o} {a} {at} {x} {whole} {rest} p e =
    subst (λ (u : List ℕ). BytesWritten o a at x u) (sym (append-nil p.done) ∙ ap (λ (l : List ℕ). p.done ++ l) (sym e) ∙ p.are) p.wrote

pub along_length : {o a : List ℕ} {at x : ℕ} {whole rest : List ℕ} → Along o a at x whole rest → length a ≡ length o
along_length p = wrote_length p.wrote

-- where the whole has room, a part that comes next has
pub along_room : {o a : List ℕ} {at x : ℕ} {whole rest : List ℕ} (u r : List ℕ) → Along o a at x whole rest → rest ≡ u ++ r
    → at + length whole ≤ length o → x + length u ≤ length a
along_room {o} {a} {at} {x} {whole} {rest} u r p e h =
    omega (arith, along_length p, p.wrote.next_is, length-append p.done rest, ap length p.are, ap length e, length-append u r, h)
