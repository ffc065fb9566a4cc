-- Boolean tests: taking them apart, and putting them together.
-- Assumes nothing.
use mathlib.Core.Path.{◌≡◌, refl, sym, subst}
use mathlib.Core.Logic.{◌⊎◌, inl, inr}
use mathlib.Core.Bool.{Bool, true, false, ◌&&◌, ◌||◌, not, cond}
use Prim.Native.Nat.{ℕ}
use native.Mathlib.Omega.{arith}
use lib.Dec.{T, eqb, eqb_refl}
use Rattle.theory.specs.Lists.{decided}

pub and_left : (a b : Bool) → T (a && b) → T a
and_left true b t = tt
and_left false b t = t

pub and_right : (a b : Bool) → T (a && b) → T b
and_right true b t = t
and_right false b t = absurd t

pub and_both : (a b : Bool) → T a → T b → T (a && b)
and_both true b s t = t
and_both false b s t = s

-- what `search` goes by to take a test apart, and to put one together
pub ruleset tests = (and_left, and_right, and_both)

pub or_left : (a b : Bool) → T a → T (a || b)
or_left true b t = tt
or_left false b t = absurd t

pub or_right : (a b : Bool) → T b → T (a || b)
or_right true b t = tt
or_right false b t = t

pub or_cases : (a b : Bool) → T (a || b) → T a ⊎ T b
or_cases true b t = inl tt
or_cases false b t = inr t

-- a test passes or fails
pub test : (b : Bool) → T b ⊎ T (not b)
test true = inl tt
test false = inr tt

pub of_true : (b : Bool) → b ≡ true → T b
of_true b e = subst T (sym e) tt

pub to_true : (b : Bool) → T b → b ≡ true
to_true true t = refl
to_true false t = absurd t

pub of_decided : {P : Type 0} (d : Dec P) → T (decided d) → P
of_decided (yes p) t = p
of_decided (no n) t = absurd t

pub to_decided : {P : Type 0} (d : Dec P) → P → T (decided d)
to_decided (yes p) t = tt
to_decided (no n) t = n t

-- what holds of both branches holds of the choice
pub cond-case {ℓ} : {A : Type ℓ} (P : A → Type 0) (b : Bool) {x y : A} → (T b → P x) → (T (not b) → P y) → P (cond b x y)
cond-case P true f g = f tt
cond-case P false f g = g tt

pub eq→eqb : (m n : ℕ) → m ≡ n → T (eqb m n)
eq→eqb m n e = subst (λ x. T (eqb m x)) e (eqb_refl m)

-- tests that say the same are equal
pub bool_eq : (a b : Bool) → (T a → T b) → (T b → T a) → a ≡ b
bool_eq true true f g = refl
bool_eq true false f g = absurd (f tt)
bool_eq false true f g = absurd (g tt)
bool_eq false false f g = refl

pub never : (b : Bool) → (T b → ⊥) → b ≡ false
never b h = bool_eq b false h (λ x. absurd x)

-- constructors that differ are never equal
pub apart : {A : Type 0} → ◌≡◌ {A = ℕ} 0 1 → A
apart e = absurd (omega arith)
