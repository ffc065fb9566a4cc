-- What `map_err` has made of a result, read backwards.
-- Assumes nothing.
use mathlib.Core.Path.{◌≡◌, refl, subst}
use Prim.Native.Nat.{ℕ}
use native.Mathlib.Omega.{arith}
use Rattle.std.specs.Prelude.{Result, Ok, Err}
use Rattle.std.specs.Result.{MatchResult, IsErrAnd}

pub mapped_ok : {T E F : Type 0} (Q : E → F → Type 0) (r : Result T E) {s : Result T F} {n : T} → MatchResult r (λ x. s ≡ Ok x) (λ e. IsErrAnd s (Q e)) → s ≡ Ok n → r ≡ Ok n
mapped_ok Q (Ok x) m e = cc
mapped_ok Q (Err x) m e = elim (subst (λ s. IsErrAnd s (Q x)) e m) [ ]

pub mapped_err : {T E F : Type 0} (Q : E → F → Type 0) (r : Result T E) {s : Result T F} {y : F} → MatchResult r (λ x. s ≡ Ok x) (λ e. IsErrAnd s (Q e)) → s ≡ Err y
    → (x : E) × (r ≡ Err x) × Q x y
mapped_err {T} {E} {F} Q (Ok x) {s} {y} m e = let z : ◌≡◌ {A = ℕ} 0 1 = cc in absurd (omega arith)
mapped_err Q (Err x) m e = (x, refl, subst (λ s. IsErrAnd s (Q x)) e m)
