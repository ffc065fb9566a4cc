-- Whether some number below n passes a test.
-- Assumes nothing.
use mathlib.Core.Path.{◌≡◌, refl, sym, ap, ap₂, ◌∙◌, subst}
use mathlib.Core.Bool.{Bool, true, false, ◌||◌, or-true, or-false, or_assoc, true≢false}
use mathlib.Core.List.{List, [], ◌∷◌, ◌++◌}
use mathlib.Core.Logic.{⊎_elim}
use Prim.Native.Nat.{ℕ, zero, suc, ◌+◌, ◌-◌, ◌≤◌, ◌<◌}
use native.Mathlib.Nat.{add-zero, zero-add, add-suc, eq-or-lt_of_le}
use native.Mathlib.Omega.{arith}
use Rattle.theory.specs.Lists.{some?, range}
use Rattle.theory.proofs.Lists.{tabulate_suc}

pub some_append : {A : Type 0} (f : A → Bool) (xs ys : List A) → some? f (xs ++ ys) ≡ some? f xs || some? f ys
some_append f [] ys = refl
some_append f (x ∷ xs) ys = rw (some_append f xs ys) (sym (or_assoc (f x) (some? f xs) (some? f ys)))

-- one number more
pub some_suc : (f : ℕ → Bool) (n : ℕ) → some? f (range (suc n)) ≡ some? f (range n) || f n
some_suc f n =
    ap (some? f) (tabulate_suc (λ k. k) 0 n)
    ∙ some_append f (range n) ((0 + n) ∷ [])
    ∙ ap (λ (b : Bool). some? f (range n) || b) (or-false (f (0 + n)) ∙ ap f (zero-add n))

pub some_same : (f g : ℕ → Bool) (n : ℕ) → ((z : ℕ) → z < n → f z ≡ g z) → some? f (range n) ≡ some? g (range n)
some_same f g zero e = refl
some_same f g (suc n) e = some_suc f n ∙ ap₂ ◌||◌ (some_same f g n (λ z h. e z (omega arith))) (e n (omega arith)) ∙ sym (some_suc g n)

pub some_none : (f : ℕ → Bool) (n : ℕ) → ((z : ℕ) → z < n → f z ≡ false) → some? f (range n) ≡ false
some_none f zero e = refl
some_none f (suc n) e = some_suc f n ∙ rw (some_none f n (λ z h. e z (omega arith)), e n (omega arith))

pub some_one : (f : ℕ → Bool) (n z : ℕ) → z < n → f z ≡ true → some? f (range n) ≡ true
some_one f zero z h e = absurd (omega arith)
some_one f (suc n) z h e = some_suc f n ∙ ⊎_elim (λ q. rw (← q, e) (or-true (some? f (range z)))) (λ l. rw (some_one f n z l e)) (eq-or-lt_of_le (omega arith))

-- two stretches
pub some_add : (f : ℕ → Bool) (p k : ℕ) → some? f (range (p + k)) ≡ some? f (range p) || some? (λ i. f (p + i)) (range k)
some_add f p zero = rw (add-zero p) (sym (or-false (some? f (range p))))
some_add f p (suc k) =
    rw (add-suc p k, some_suc f (p + k), some_add f p k, some_suc (λ i. f (p + i)) k) (or_assoc (some? f (range p)) (some? (λ i. f (p + i)) (range k)) (f (p + k)))

-- a stretch where the test fails
pub some_skip : (f : ℕ → Bool) (p k : ℕ) → ((i : ℕ) → i < k → f (p + i) ≡ false) → some? f (range (p + k)) ≡ some? f (range p)
some_skip f p k e = some_add f p k ∙ rw (some_none (λ i. f (p + i)) k e) (or-false (some? f (range p)))

-- numbers from n on that fail the test do not count
pub some_cut : (f : ℕ → Bool) (n m : ℕ) → n ≤ m → ((z : ℕ) → n ≤ z → z < m → f z ≡ false) → some? f (range m) ≡ some? f (range n)
some_cut f n m h e =
    let s : n + (m - n) ≡ m = omega arith in
    subst (λ (k : ℕ). some? f (range k) ≡ some? f (range n)) s (some_skip f n (m - n) (λ i l. e (n + i) (omega arith) (omega arith)))

-- none passes it
pub some_no : (f : ℕ → Bool) (n z : ℕ) → some? f (range n) ≡ false → z < n → f z ≡ false
some_no f n z e h = go (f z) refl
  where
    go : (b : Bool) → f z ≡ b → f z ≡ false
    go true q = absurd (true≢false (sym (some_one f n z h q) ∙ e))
    go false q = q
