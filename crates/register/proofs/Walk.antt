-- The walk over a register's links, told by the number left: its start, its end, and one step on.
-- Assumes nothing.
use mathlib.Core.Path.{◌≡◌, refl, ap, ◌∙◌}
use mathlib.Core.List.{List, [], ◌∷◌}
use Prim.Native.Nat.{ℕ, zero, suc, ◌-◌, ◌≤◌}
use native.Mathlib.Omega.{arith}
use lib.ListN.{length, drop, length-drop}
use Rattle.theory.specs.Register.{Edge}
use Rattle.register.specs.Form.{register_in}
use Rattle.register.specs.LinksAhead.{to_come}

-- at the start all links are to come
pub all_to_come : (s : List ℕ) (left : ℕ) → left ≡ length (register_in s).links → to_come s left ≡ (register_in s).links
unfolding to_come
all_to_come s left e = let z : length (register_in s).links - left ≡ 0 = omega arith in ap (λ (k : ℕ). drop k (register_in s).links) z

drop_next : (k : ℕ) (xs : List Edge) (y : Edge) (ys : List Edge) → drop k xs ≡ y ∷ ys → drop (suc k) xs ≡ ys
drop_next zero [] y ys e = let z : ◌≡◌ {A = ℕ} 0 1 = cc in absurd (omega arith)
drop_next zero (x ∷ xs) y ys e = cc
drop_next (suc k) [] y ys e = let z : ◌≡◌ {A = ℕ} 0 1 = cc in absurd (omega arith)
drop_next (suc k) (x ∷ xs) y ys e = drop_next k xs y ys e

pub no_length : {A : Type 0} (xs : List A) → length xs ≡ 0 → xs ≡ []
no_length [] e = refl
no_length (x ∷ xs) e = absurd (omega arith)

module _ (s : List ℕ) (left : ℕ) (few : left ≤ length (register_in s).links) where
  pub to_come_length : length (to_come s left) ≡ left
  unfolding to_come
  to_come_length = omega (arith, length-drop (length (register_in s).links - left) (register_in s).links)

  pub to_come_none : left ≡ 0 → to_come s left ≡ []
  to_come_none z = no_length (to_come s left) (to_come_length ∙ z)

  -- after the first of the links to come
  pub to_come_next : (x : Edge) (es : List Edge) → to_come s left ≡ x ∷ es → to_come s (left - 1) ≡ es
  unfolding to_come
  to_come_next x es e =
      let n = length (register_in s).links in
      let z : n - (left - 1) ≡ suc (n - left) = omega (arith, to_come_length, ap length e) in
      ap (λ (k : ℕ). drop k (register_in s).links) z ∙ drop_next (n - left) (register_in s).links x es e
